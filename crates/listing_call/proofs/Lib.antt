pub mod Laws
pub mod Back
pub mod Rows
pub mod Rules
pub mod Unique
