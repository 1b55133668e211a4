mod Long
mod Room
mod Streams
mod Enough
mod Replies
