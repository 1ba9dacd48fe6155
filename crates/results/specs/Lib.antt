-- Result numbers.
pub mod Number
