pub mod Texts
pub mod Rules
pub mod Printed
pub mod Examples
