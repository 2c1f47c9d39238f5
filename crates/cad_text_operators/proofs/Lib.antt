pub mod Cuts
pub mod Numerals
pub mod Pushes
pub mod Rows
pub mod Utf8
