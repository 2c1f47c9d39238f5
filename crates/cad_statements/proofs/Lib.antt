pub mod Arms
pub mod Forms
pub mod Found
pub mod Numbers
pub mod Rows
pub mod Turns
