pub mod Wanted
pub mod Again
pub mod Texts
