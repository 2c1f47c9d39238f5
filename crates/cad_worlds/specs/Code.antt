pub mod KnownRegisters
pub mod Passing
