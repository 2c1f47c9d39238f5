pub mod Composites
pub mod CoveredLaws
pub mod FieldTypes
pub mod Found
pub mod Holders
pub mod Kept
pub mod NewestCall
pub mod OwnTypeLaws
