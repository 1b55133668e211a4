mod HeldTwice
mod Copies
