pub mod Plans
pub mod Shells
