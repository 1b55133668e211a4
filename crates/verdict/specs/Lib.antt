pub mod Test
pub mod Settings
pub mod Exactness
pub mod Near
pub mod Scratch
pub mod Searching
pub mod Difference
