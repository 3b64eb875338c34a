pub mod OlderLemmas
pub mod Moves
pub mod Sides
mod Keeps
mod Nears
mod Forces
pub mod Comes
mod Worths
mod Leasts
pub mod Truths
