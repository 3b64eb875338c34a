mod Keeping
mod Stopping
mod Halting
mod Pairs
pub mod Grown
pub mod Each
mod Beginning
mod Opening
pub mod Gaining
mod Together
mod Refusing
mod Looking
pub mod Worked
mod Sweeping
