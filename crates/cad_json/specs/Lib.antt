pub mod Words
pub mod Told
pub mod Forms
pub mod Read
