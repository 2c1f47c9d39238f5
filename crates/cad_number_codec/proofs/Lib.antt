pub mod Numbers
pub mod Decoded
pub mod Nums
