pub mod Loading
pub mod Laws
pub mod Wanted
pub mod Passed
