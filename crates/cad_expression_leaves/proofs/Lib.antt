pub mod Adding
pub mod Boxing
pub mod Going
pub mod Plain
pub mod Rights
pub mod Told
pub mod Trees
pub mod Passed
