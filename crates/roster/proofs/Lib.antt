-- Laws of places, of words and of lines.
pub mod Places
pub mod Parted
pub mod Taken
pub mod Worded
pub mod Marked
pub mod Lines
