pub mod Lines
pub mod Words
pub mod Held
pub mod Code
pub mod Passed
