pub mod Lists
pub mod Each
