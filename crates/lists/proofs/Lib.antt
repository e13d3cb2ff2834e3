pub mod Tests
pub mod Lists
pub mod Loops
pub mod Each
pub mod Once
