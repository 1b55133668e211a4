pub mod Colour
pub mod Root
pub mod Ranges
