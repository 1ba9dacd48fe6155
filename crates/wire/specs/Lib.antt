-- Messages on the wire, in the order of "Message bytes".
pub mod Bytes
pub mod Commands
pub mod Kinds
pub mod Asked
pub mod Checksum
pub mod Reading
