-- Which module sits at the desk, and what the programs keep from frame to frame and from read to read.
pub mod Word
pub mod Tally
pub mod Desk
pub mod Ahead
pub mod Passed
pub mod Input
