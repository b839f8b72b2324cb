mod Tails
mod Parts
mod Orders
