mod Numbers
mod Made
mod Logs
mod Lines
mod Departing
pub mod Always
