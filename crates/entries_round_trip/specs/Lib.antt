pub mod Parts
pub mod RoundTrip
pub mod Listing
pub mod Walks
