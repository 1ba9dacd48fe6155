-- A dimmer's own rows, in the order of the paper; then its legal commands, by the bytes of a message.
pub mod Lamp
pub mod Load
pub mod Properties
pub mod Table
pub mod Groups
pub mod Legal
pub mod LegalGroups
pub mod Rates
