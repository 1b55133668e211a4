mod Digits
mod Gathered
mod Laid
mod Made
mod Labelled
mod Divided
pub mod Held
