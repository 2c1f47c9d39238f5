mod Slots
pub mod Looks
pub mod Settled
pub mod Spots
mod Contracts
