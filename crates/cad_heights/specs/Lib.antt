pub mod Heights
pub mod Programs
