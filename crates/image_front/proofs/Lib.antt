pub mod Rows
pub mod Laws
pub mod Rules
pub mod Unique
