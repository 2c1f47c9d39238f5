pub mod Closing
pub mod Reading
pub mod Views
