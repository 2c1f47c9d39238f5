pub mod Requests
pub mod Verdicts
pub mod Views
pub mod Code
