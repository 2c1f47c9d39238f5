pub mod Listing
pub mod Results
pub mod Runs
pub mod SoundAccounts
pub mod Whole
