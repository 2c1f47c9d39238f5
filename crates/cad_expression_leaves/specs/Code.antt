pub mod Rights
pub mod Steps
