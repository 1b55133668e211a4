pub mod Rows
pub mod Starred
pub mod Guards
pub mod Rings
pub mod Printed
pub mod Logs
pub mod Widenings
