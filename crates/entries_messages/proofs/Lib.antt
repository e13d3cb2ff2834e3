pub mod Rules
pub mod Unique
pub mod Facts
