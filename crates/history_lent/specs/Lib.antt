pub mod Lent
pub mod Hosted
pub mod Refusals
