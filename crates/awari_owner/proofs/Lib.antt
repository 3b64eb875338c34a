pub mod Lists
mod SpreadNotes
mod Spreading
mod Hearing
mod ScannedOwners
mod Firsts
mod Sending
mod Telling
mod Queueing
pub mod Sharing
pub mod Expecting
pub mod Levels
pub mod Sounding
mod Giving
pub mod SpreadFaults
