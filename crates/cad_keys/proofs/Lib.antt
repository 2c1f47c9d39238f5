pub mod Alike
pub mod Changes
pub mod Kept
pub mod Tests
pub mod Walks
