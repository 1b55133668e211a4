pub mod Served
pub mod Checks
