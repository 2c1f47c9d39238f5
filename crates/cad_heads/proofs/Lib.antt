mod Fresh
mod ScopeParts
