-- Who sits there, as words say it.
pub mod Word
pub mod Seat
pub mod Words
pub mod Bytes
pub mod Line
pub mod Roster
