-- Laws of the call to a class for other languages.
pub mod Images
pub mod Stored
pub mod Named
pub mod Standing
pub mod Started
pub mod ClassServed
pub mod Left
