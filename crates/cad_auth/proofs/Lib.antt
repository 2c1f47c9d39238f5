pub mod Covers
pub mod CoverTests
pub mod Least
pub mod Stronger
