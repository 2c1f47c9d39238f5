pub mod Found
pub mod Hashes
pub mod Indices
pub mod Kept
