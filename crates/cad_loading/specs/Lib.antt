pub mod Views
pub mod Slots
pub mod Again
pub mod Answers
pub mod Laws
pub mod Passed
