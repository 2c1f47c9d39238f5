pub mod Replied
pub mod Served
pub mod Writing
pub mod Crashes
pub mod Ending
pub mod Statuses
pub mod Generated
pub mod Code
