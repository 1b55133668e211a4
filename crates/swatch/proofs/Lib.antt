pub mod PrintedLengths
pub mod Given
pub mod Writing
pub mod Fields
pub mod Lines
pub mod Rows
pub mod Numbers
pub mod Long
pub mod FieldRead
mod LineRead
pub mod SwatchRead
pub mod CardRead
