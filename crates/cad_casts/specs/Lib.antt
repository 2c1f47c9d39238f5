pub mod Code
pub mod Settled
