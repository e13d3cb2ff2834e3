pub mod Theorems
pub mod Examples
pub mod Wrong
pub mod Changes
