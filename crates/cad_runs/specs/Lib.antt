pub mod Surroundings
pub mod Run
pub mod Commands
pub mod Batch
pub mod Laws
