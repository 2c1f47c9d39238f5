pub mod Fitting
pub mod Kinds
pub mod Values
pub mod Steps
