mod Emptied
mod Asked
mod Fills
mod Changes
mod Swaps
