-- Definitions that follow the code: what is done to an account as a value.
pub mod Changing
pub mod Edits
