pub mod Fields
pub mod Commands
pub mod Views
pub mod Bounds
