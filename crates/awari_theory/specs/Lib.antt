pub mod Older
pub mod Secures
pub mod Worth
pub mod Least
pub mod Promises
pub mod Truth
