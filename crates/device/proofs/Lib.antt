-- Laws of a call.
pub mod Finished
pub mod Replied
pub mod Lasting
pub mod Lent
pub mod Parts
pub mod Counted
