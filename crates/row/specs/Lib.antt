-- Who sits in a row, and who is to be served.
pub mod Number
pub mod Answer
pub mod Row
pub mod Round
