mod Parameters
mod Rows
