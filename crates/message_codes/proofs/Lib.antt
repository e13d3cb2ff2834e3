pub mod Laws
pub mod Tables
pub mod Unique
