-- Replies, byte by byte.
pub mod Message
pub mod Records
pub mod Reply
pub mod Sending
pub mod Positions
