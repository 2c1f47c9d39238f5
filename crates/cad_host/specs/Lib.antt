pub mod Faults
pub mod Disk
pub mod Input
pub mod Schedule
pub mod Record
pub mod Memory
pub mod Crash
pub mod Code
