-- One message, and one after another.
pub mod Step
pub mod Run
