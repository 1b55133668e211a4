pub mod Input
pub mod Reading
pub mod Output
pub mod Written
