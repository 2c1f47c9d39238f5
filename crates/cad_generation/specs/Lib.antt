pub mod Programs
pub mod Requests
pub mod Numbers
pub mod Lines
