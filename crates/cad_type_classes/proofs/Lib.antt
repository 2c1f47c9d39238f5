mod Alone
mod Exportable
mod Optionals
mod Truths
mod Turns
