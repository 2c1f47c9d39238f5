pub mod Changes
pub mod Dictionaries
pub mod Members
pub mod Parts
pub mod Tables
