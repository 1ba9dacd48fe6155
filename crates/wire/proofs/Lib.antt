-- Laws of messages.
pub mod Whole
pub mod Head
pub mod Added
pub mod Heard
pub mod Numbered
pub mod Commanded
pub mod CommandBytes
