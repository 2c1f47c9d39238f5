pub mod Code
pub mod Laws
pub mod Passed
pub mod Views
