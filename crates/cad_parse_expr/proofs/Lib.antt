pub mod ExpressionLaws
mod Sound
mod Closed
mod Strength
mod Facts
mod Steps
mod Exact
pub mod Whole
mod Place
