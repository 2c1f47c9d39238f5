mod Fields
pub mod Visits
pub mod Found
