-- Why each seat runs as if alone.
pub mod Shares
pub mod Quiet
pub mod Named
pub mod Idle
pub mod Round
pub mod Alone
pub mod Heart
pub mod Refusals
pub mod Fate
pub mod Demands
pub mod Examples
