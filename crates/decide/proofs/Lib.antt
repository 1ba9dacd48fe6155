-- Laws of what is decided.
pub mod Sender
pub mod SameKind
pub mod Heads
