pub mod AccountLaws
pub mod ControllerLaws
pub mod GroupLaws
pub mod Telling
