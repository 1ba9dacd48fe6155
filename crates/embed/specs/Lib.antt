-- What the call for other languages means.
pub mod Call
