pub mod Joined
pub mod Loaded
pub mod OneWorld
pub mod PartKnown
pub mod Passed
