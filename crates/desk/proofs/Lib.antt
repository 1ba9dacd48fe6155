-- Laws of what a desk comes to.
pub mod Ahead
pub mod Passed
pub mod Held
pub mod Served
