pub mod Lengths
pub mod Below
pub mod Each
pub mod Laws
pub mod Simple
pub mod Contracts
