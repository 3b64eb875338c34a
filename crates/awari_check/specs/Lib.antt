pub mod CheckFault
pub mod Stops
pub mod Answer
