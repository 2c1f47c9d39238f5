pub mod Found
pub mod Homes
pub mod Orders
