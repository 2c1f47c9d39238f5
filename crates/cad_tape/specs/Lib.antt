pub mod Framing
pub mod Reading
pub mod Stops
pub mod Code
