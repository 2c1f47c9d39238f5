pub mod Accounts
pub mod Views
pub mod Ways
pub mod Parts
