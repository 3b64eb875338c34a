mod Lying
mod Saying
pub mod Reading
pub mod Refusing
mod Framing
pub mod Running
mod Collecting
