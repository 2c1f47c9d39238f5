mod Befores
pub mod Lists
pub mod Stops
pub mod Turns
mod Walks
