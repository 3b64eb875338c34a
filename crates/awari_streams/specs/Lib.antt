pub mod Counted
pub mod Reading
