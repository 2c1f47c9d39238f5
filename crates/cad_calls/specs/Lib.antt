pub mod Code
pub mod Levels
pub mod Pieces
pub mod Unnamed
pub mod Passed
