-- What the screen shows of whoever sits there.
pub mod Shown
