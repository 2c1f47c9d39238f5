pub mod Standing
pub mod Sections
pub mod Merging
pub mod Laws
pub mod Items
pub mod Parts
pub mod RowLists
pub mod Code
