pub mod Images
pub mod Theorems
pub mod Hosted
pub mod Ports
pub mod Refusals
pub mod Examples
