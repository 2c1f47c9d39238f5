pub mod Code
pub mod Deployments
pub mod Passed
pub mod Scripts
pub mod Transactions
