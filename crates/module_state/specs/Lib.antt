pub mod Numbers
pub mod Refusals
pub mod Module
pub mod Claim
