-- What is laid in a line, and what a piece of text more comes to.
pub mod Page
pub mod Laid
