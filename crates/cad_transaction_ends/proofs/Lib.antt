pub mod AccountTests
pub mod Kept
pub mod KnownAccounts
pub mod Order
pub mod Signing
pub mod Stored
