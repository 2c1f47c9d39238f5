pub mod Around
pub mod Rows
pub mod Sums
pub mod Told
