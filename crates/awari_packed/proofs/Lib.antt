mod Digits
mod Emptying
mod FallTables
mod Halves
pub mod Moving
mod PairTables
mod RankSums
mod Taking
pub mod TakingBack
mod Whole
mod Nexts
