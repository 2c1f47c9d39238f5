pub mod Code
pub mod Settled
pub mod Uses
pub mod Views
