pub mod Arrivals
pub mod Fields
pub mod Indices
pub mod Readings
