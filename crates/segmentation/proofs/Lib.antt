mod Valleys
mod FirstHumps
pub mod FirstCut
mod Walking
mod FirstHeld
pub mod Kept
pub mod Settled
pub mod OneMode
pub mod ModeStarts
pub mod Finishing
pub mod Always
pub mod Holding
mod Searching
pub mod Applied
pub mod RingPlaces
pub mod TwoTurns
pub mod Turned
pub mod RoundKept
pub mod RoundOne
pub mod RunsInside
pub mod RingModes
pub mod Filled
pub mod Loose
pub mod HeldStarts
pub mod Stepping
