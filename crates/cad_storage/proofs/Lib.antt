pub mod ArgumentLaws
pub mod Steps
pub mod StorageLaws
pub mod TypeLaws
