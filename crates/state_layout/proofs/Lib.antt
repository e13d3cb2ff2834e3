pub mod Fields
pub mod Sound
pub mod Laws
pub mod Parts
pub mod InPlace
pub mod Examples
