pub mod Identifiers
pub mod Places
