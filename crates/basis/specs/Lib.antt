-- What the definitions of every layer are written with.
pub mod Choice
pub mod Table
pub mod First
pub mod Numbers
pub mod Spell
pub mod Laid
pub mod Flags
