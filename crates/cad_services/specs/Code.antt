pub mod Groups
pub mod Services
