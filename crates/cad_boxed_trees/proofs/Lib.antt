pub mod Boxing
