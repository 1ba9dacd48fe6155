-- Laws of tests, choices, tables, first positions, lists and laid bytes.
pub mod Tests
pub mod Choice
pub mod Table
pub mod First
pub mod Counted
pub mod Spelled
pub mod Laid
pub mod Over
pub mod Flags
pub mod Bits
