pub mod Listing
pub mod Turning
pub mod Numbers
