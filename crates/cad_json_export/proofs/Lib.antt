pub mod Plain
pub mod Pushes
pub mod Laws
pub mod Turns
