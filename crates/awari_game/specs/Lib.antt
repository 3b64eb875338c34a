pub mod Plays
pub mod Shown
pub mod Kept
