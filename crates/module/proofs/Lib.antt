-- Laws of what a command comes to.
pub mod Limited
