-- The outlet of request 1: its own rows and its groups; then its legal commands, by the bytes of a message.
pub mod Sockets
pub mod Load
pub mod Properties
pub mod Table
pub mod Groups
pub mod Legal
pub mod LegalGroups
