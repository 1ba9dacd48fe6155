-- What a module's load starts with, how a kind's own table answers, and what it has to show.
pub mod Fresh
pub mod Answer
pub mod Table
pub mod Judged
pub mod Alike
