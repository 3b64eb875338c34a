pub mod Moves
pub mod Json
