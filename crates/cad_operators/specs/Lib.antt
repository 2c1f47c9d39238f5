pub mod Answers
pub mod Bytes
pub mod Calculations
pub mod Heads
pub mod Leaves
