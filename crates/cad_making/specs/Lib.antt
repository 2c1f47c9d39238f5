pub mod Code
pub mod Dying
pub mod Laws
pub mod Making
