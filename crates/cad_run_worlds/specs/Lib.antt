pub mod Code
pub mod Replies
pub mod Views
pub mod Worlds
