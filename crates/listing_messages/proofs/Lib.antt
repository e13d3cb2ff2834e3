pub mod Laws
pub mod Worked
pub mod Rules
pub mod Unique
