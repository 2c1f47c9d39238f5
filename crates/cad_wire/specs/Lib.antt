pub mod Fields
pub mod Body
pub mod Reading
