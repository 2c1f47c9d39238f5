pub mod Maps
pub mod EntryPlaces
pub mod LateEntries
pub mod OneSize
pub mod Keys
pub mod Order
pub mod RowLaws
pub mod Places
pub mod Existing
mod OneByOne
pub mod Middle
pub mod Blocks
pub mod BlockEdits
pub mod Storing
pub mod Splitting
pub mod Promising
