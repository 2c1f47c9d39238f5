pub mod Decimal
pub mod Numbers
