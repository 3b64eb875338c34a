pub mod Landing
pub mod Legal
mod Faults
pub mod Falling
pub mod Capturing
pub mod Moving
pub mod Keeping
mod Listing
mod Writing
mod Matching
mod Reading
mod Scanning
mod Parsing
mod Spelled
