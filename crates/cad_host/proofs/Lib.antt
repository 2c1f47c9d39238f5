pub mod Lists
pub mod Images
pub mod Inside_write
pub mod Ran
pub mod Kept
pub mod Recorded
pub mod Replayed
