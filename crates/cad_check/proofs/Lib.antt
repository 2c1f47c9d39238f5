mod Acceptances
mod Ordered
mod Refused
mod Texts
mod Unique
mod Verdicts
