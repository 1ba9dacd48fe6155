-- Laws of images.
pub mod Values
pub mod Whole
