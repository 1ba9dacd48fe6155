-- One bench for a class.
pub mod Seat
pub mod Class
pub mod Seats
pub mod Turns
