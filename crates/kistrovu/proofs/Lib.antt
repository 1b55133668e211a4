mod FitAnswers
mod Modes
mod Narrow
pub mod Turns
pub mod Cards
pub mod Texts
pub mod Replays
