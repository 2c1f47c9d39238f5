pub mod CastLaws
pub mod Plain
pub mod References
pub mod RowLaws
pub mod Settles
