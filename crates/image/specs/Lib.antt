-- A module as bytes, and what a call from another language comes to.
pub mod Places
pub mod Image
pub mod Returned
