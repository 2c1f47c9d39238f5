pub mod Again
mod Imported
mod Orders
mod Places
mod Settled
mod Turns
mod Verdicts
