pub mod Listing
pub mod Calls
pub mod Run
pub mod Ports
