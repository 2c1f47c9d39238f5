pub mod Actions
pub mod CastPlaces
pub mod Code
pub mod Laws
pub mod Views
