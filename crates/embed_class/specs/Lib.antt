-- What the call to a class means for other languages.
pub mod Row
pub mod Serve
pub mod ClassCall
