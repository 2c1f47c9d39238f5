pub mod Charges
pub mod HeadLaws
pub mod Kept
pub mod Orders
pub mod SameLaws
