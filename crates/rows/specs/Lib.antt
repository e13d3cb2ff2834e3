pub mod Bytes
pub mod Rows
