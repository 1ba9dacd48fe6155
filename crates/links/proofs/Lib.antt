-- Laws of link memory.
pub mod Standing
pub mod Chunked
pub mod Alike
pub mod Taken
pub mod Stop
pub mod Settled
pub mod Linked
pub mod Listed
pub mod Foremost
pub mod Named
pub mod Written
pub mod Following
