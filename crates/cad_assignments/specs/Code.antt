pub mod Emptied
pub mod Contents
pub mod Fills
pub mod Changes
