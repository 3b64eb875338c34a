pub mod Meanings
pub mod Means
pub mod Refusals
pub mod Parts
