pub mod Stores
pub mod Stops
pub mod Opening
pub mod Code
