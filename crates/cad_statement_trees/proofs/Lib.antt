pub mod Cases
pub mod Chosen
pub mod Empty
