-- Theorems on the class: each seat runs as if alone.
pub mod Lesson
pub mod Alone
pub mod Heart
pub mod Refusals
pub mod Fate
pub mod Demands
pub mod Examples
