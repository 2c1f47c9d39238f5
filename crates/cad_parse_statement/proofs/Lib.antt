pub mod StatementLaws
mod PartLaws
pub mod Facts
mod Sound
mod Steps
mod Exact
pub mod Whole
