-- Frames in and frames out.
pub mod Arrived
pub mod Frames
pub mod Serve
pub mod Stream
