pub mod Progress
pub mod Ending
pub mod Counted
