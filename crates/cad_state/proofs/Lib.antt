pub mod Changes
pub mod Filling
pub mod Finding
pub mod Frames
pub mod Holding
pub mod Nodes
pub mod Spending
pub mod Standing
