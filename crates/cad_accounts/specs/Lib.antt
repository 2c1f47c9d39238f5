pub mod Code
pub mod KeyOrder
pub mod Memory
pub mod Registers
pub mod Room
