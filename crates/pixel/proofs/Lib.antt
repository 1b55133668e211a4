pub mod Quarters
pub mod Chroma
pub mod Saturation
pub mod NearRoot
pub mod Hue
pub mod Ranges
