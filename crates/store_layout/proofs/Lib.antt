pub mod Parts
pub mod Written
pub mod Laws
pub mod InPlace
pub mod Examples
