mod Items
mod Judged
mod Told
