-- An outlet's table beside its legal commands.
pub mod Legal
pub mod LegalGroups
