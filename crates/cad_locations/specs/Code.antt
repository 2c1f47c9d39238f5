pub mod Slots
pub mod Errors
pub mod Spots
pub mod Values
