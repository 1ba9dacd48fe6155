-- Laws of the call for other languages.
pub mod Served
