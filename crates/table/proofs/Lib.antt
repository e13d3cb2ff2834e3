pub mod Laws
pub mod Searched
pub mod Rules
pub mod Counting
pub mod Unique
pub mod Examples
