pub mod ArgumentLaws
pub mod Runs
pub mod Signing
pub mod Sorts
pub mod Stops
pub mod Turns
pub mod Uniqueness
