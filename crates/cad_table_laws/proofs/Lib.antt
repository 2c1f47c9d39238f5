mod Added
mod Contracts
mod Offered
pub mod Reaching
mod Same
