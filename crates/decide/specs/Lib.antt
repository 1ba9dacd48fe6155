-- What is decided of a message, in the order of the paper.
pub mod Dispatch
pub mod Groups
pub mod Decide
pub mod Ruling
