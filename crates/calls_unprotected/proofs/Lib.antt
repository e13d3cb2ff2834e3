pub mod Unique
pub mod Rules
