pub mod CastLaws
pub mod Passing
pub mod SettledLaws
pub mod Settling
pub mod StoredLaws
pub mod Targets
