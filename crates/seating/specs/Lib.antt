-- Who sits at a desk.
pub mod Heed
pub mod Sat
pub mod Start
