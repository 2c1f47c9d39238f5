pub mod Checks
pub mod Identities
pub mod OfValues
pub mod Parts
pub mod Code
