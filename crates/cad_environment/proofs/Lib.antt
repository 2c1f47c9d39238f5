mod Told
mod Meant
mod Counted
mod ScopeParts
