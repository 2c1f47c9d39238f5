pub mod Code
pub mod Refusals
