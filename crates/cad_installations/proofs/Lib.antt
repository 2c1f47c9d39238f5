mod Ends
mod Kept
mod Alike
mod Coming
mod Begun
mod Whole
mod Running
mod Added
