pub mod Drawer
pub mod Text
