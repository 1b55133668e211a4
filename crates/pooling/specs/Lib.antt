pub mod Limits
pub mod Blocks
pub mod Fraction
pub mod Best
pub mod Stack
