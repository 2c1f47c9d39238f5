pub mod Addresses
pub mod Items
pub mod Limits
pub mod Lines
pub mod Samples
