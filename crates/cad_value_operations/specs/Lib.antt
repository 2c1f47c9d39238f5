pub mod Code
pub mod Optionals
