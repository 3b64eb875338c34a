mod Posts
mod Sounds
mod Keeping
mod Beginning
mod Gathered
mod Homing
mod Parts
