mod Sounding
mod Steps
mod Telling
mod Effects
pub mod Rounds
mod Making
mod Ending
