-- Laws of frames.
pub mod Placed
pub mod Pieces
pub mod Cut
pub mod Framed
pub mod Laying
pub mod Turned
