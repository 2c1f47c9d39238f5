pub mod Code
pub mod Left
pub mod OverStorable
