pub mod Gathered
pub mod Within
pub mod Twos
pub mod Stored
pub mod Laws
