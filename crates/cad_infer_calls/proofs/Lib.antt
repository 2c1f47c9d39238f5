mod Each
mod Plain
