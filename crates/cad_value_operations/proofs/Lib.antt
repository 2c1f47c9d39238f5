pub mod ChargeLaws
pub mod EnumLaws
pub mod GroupLaws
pub mod Looks
pub mod OptionalLaws
pub mod SpotLaws
pub mod TypeLaws
