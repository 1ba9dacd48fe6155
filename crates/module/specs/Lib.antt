-- What a module is, and what can be decided for it.
pub mod Module
pub mod Change
pub mod Deed
pub mod Plan
