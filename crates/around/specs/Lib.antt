-- What stands around a module's step.
pub mod Program
pub mod Frames
pub mod Image
pub mod OneAnswer
