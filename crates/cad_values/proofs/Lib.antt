mod Lengths
mod Nums
