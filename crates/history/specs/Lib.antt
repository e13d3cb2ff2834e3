pub mod Lives
pub mod History
pub mod Demand
pub mod Steps
pub mod Since
pub mod Fits
