pub mod Comes
pub mod Ends
pub mod Stops
pub mod Walk
