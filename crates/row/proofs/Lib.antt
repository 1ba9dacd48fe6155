-- Laws of a row by its addresses.
pub mod Fit
pub mod Named
pub mod Position
pub mod Readings
pub mod Noticed
