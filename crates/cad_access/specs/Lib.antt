pub mod Calls
pub mod Covered
pub mod Members
pub mod OwnTypes
pub mod Reaches
pub mod RunContracts
pub mod Shapes
