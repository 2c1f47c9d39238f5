pub mod Firsts
pub mod Machine
pub mod Rows
pub mod Tables
