pub mod Rules
pub mod Facts
pub mod Unique
pub mod Rescue
