pub mod Owners
pub mod PhaseFault
pub mod Stops
pub mod Steps
