mod Each
mod Parts
