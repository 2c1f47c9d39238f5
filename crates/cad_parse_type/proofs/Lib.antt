pub mod Turns
pub mod Heads
pub mod Climbs
pub mod ListLaws
pub mod TypeLaws
pub mod NameLaws
pub mod Over
mod Sound
mod Facts
mod Steps
pub mod Exact
pub mod Whole
