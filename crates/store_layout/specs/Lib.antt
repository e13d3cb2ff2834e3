pub mod Store
pub mod Layout
pub mod Facts
