pub mod Closed
mod Linked
mod Lists
mod Plain
mod Reach
mod Turns
mod Made
