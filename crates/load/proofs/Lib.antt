-- Laws of the border.
pub mod Carried
