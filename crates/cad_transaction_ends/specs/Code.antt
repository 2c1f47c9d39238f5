pub mod AccountTests
pub mod Sorting
