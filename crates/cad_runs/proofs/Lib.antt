pub mod Leaving
pub mod ReadBack
pub mod Kept
pub mod SampleCommands
pub mod Samples
