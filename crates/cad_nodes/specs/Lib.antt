pub mod Keys
pub mod Edits
pub mod Exchanges
