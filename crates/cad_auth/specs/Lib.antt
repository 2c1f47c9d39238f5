pub mod Code
pub mod Grants
pub mod Images
pub mod Tests
