pub mod Values
pub mod Sizes
pub mod Keys
pub mod Types
pub mod Forms
pub mod Shapes
pub mod Fits
