mod Joined
mod Right
