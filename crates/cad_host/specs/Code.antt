pub mod Tapes
pub mod Replay
