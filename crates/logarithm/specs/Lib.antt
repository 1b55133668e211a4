pub mod Log
pub mod Worker
pub mod Bounds
pub mod Sheet
