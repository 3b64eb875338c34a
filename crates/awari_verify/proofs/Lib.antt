pub mod SightLemmas
mod LevelLemmas
mod PieceLemmas
mod ShareLemmas
mod FillingLemmas
mod LookLemmas
mod TileLemmas
pub mod FaultLemmas
mod TruthLemmas
mod OlderLemmas
