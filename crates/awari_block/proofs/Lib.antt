pub mod BlockLemmas
mod FreshHeap
mod Opening
pub mod Freshness
pub mod Settling
mod Awaiting
mod Putting
pub mod SixPits
pub mod NoteLists
pub mod ListParts
pub mod Legality
pub mod PitSets
pub mod Knowing
pub mod Giving
