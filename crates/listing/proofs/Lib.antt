mod Rotated
mod Listed
mod ReadOff
pub mod Always
pub mod TurnedBins
pub mod Turning
pub mod TwoLowest
