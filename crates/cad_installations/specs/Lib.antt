pub mod Views
pub mod Code
