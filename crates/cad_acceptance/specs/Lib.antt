pub mod Acceptance
pub mod Bodies
pub mod Laws
pub mod Phases
pub mod Stops
