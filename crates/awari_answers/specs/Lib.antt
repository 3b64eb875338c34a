pub mod Asked
pub mod Broken
pub mod LevelLines
pub mod Parts
pub mod Refusals
