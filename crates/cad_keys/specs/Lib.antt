pub mod Code
pub mod Sameness
