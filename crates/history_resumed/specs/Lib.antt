pub mod Resumed
pub mod Changes
