pub mod FirstStops
pub mod Lacking
pub mod Walk
pub mod Ways
