pub mod Groups
pub mod Members
pub mod Operators
pub mod Optionals
