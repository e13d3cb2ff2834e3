pub mod Rules
pub mod Unique
