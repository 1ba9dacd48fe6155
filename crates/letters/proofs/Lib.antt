-- A piece more, laid behind what is laid.
pub mod Behind
