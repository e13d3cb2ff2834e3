pub mod Keys
pub mod Stands
