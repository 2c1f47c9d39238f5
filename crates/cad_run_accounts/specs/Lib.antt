pub mod Code
pub mod Known
