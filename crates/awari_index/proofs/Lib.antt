mod Halving
mod RunLists
mod Filling
