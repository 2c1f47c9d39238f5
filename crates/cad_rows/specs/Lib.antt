pub mod Views
pub mod Places
pub mod Owned
pub mod Carried
pub mod Ways
pub mod Exchanges
pub mod Laws
