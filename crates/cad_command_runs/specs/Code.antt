pub mod Deployments
pub mod Scripts
pub mod Transactions
