-- A dimmer's table beside its legal commands.
pub mod Legal
pub mod LegalGroups
pub mod Rates
