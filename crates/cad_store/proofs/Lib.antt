pub mod Balance
pub mod Holding
pub mod Placing
pub mod Turning
pub mod Stopping
pub mod Beginning
