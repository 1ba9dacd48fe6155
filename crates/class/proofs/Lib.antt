-- Laws of a row.
pub mod Shared
pub mod Runs
pub mod Rounds
pub mod Lasting
pub mod Lent
