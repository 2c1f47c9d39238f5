pub mod KeyLaws
pub mod Written
pub mod Twice
pub mod Found
