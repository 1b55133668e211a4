pub mod Machine
mod Terms
mod Largest
pub mod Masses
mod Scratch
pub mod Range
mod Sizes
mod Caps
pub mod Ordered
pub mod Settings
pub mod Monotone
pub mod Whole
pub mod Band
mod Products
mod Means
mod Growth
mod Steps
mod NearWeight
mod Sparing
mod Covered
pub mod Sound
pub mod Difference
