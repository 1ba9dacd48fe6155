-- Laws of replies.
pub mod Upward
pub mod Measured
pub mod Positions
pub mod Messages
