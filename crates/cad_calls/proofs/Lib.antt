pub mod Keeping
pub mod Laws
pub mod Levels
pub mod Lists
pub mod Runs
pub mod Steps
pub mod Telling
pub mod Unnamed
