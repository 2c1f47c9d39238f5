pub mod Before
pub mod Stops
pub mod Walks
