pub mod Arguments
pub mod Sorts
