mod Closed
mod Enums
mod Imports
mod Points
mod Turns
