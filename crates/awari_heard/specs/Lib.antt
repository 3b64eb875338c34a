pub mod Heard
pub mod Level
pub mod Finish
pub mod Kept
pub mod Filling
