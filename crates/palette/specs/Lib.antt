pub mod Levels
pub mod Cards
pub mod Sound
pub mod Laws
pub mod Figures
