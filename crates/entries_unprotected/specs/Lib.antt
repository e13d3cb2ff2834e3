pub mod Fresh
pub mod Version
