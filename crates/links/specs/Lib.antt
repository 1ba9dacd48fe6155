-- Link memory, in the order of "Link memory".
pub mod Record
pub mod Live
pub mod Name
pub mod Search
pub mod Settled
pub mod LiveList
pub mod Mark
pub mod Write
