pub mod Beside
pub mod Placed
