pub mod Bytes
pub mod Over
pub mod Rows
pub mod Loops
pub mod Chunks
pub mod Rules
pub mod Unique
