pub mod Scanning
mod Looks
mod RunMoves
pub mod Finding
