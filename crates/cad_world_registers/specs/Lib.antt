pub mod Told
pub mod Meaning
pub mod Exact
pub mod Listed
pub mod Wanted
pub mod Code
