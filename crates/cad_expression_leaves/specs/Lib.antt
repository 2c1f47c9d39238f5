pub mod Code
pub mod EventCalls
pub mod Views
pub mod Passed
