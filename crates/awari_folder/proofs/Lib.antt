mod Empty
mod Written
pub mod Opened
pub mod Saved
pub mod Kept
pub mod Placing
mod Sharing
pub mod States
