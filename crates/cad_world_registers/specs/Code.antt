-- What mirrors the code.
pub mod Selection
pub mod PartDrafts
