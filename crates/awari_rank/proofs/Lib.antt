pub mod Counting
pub mod Examples
mod Order
pub mod Ranking
pub mod Reaching
pub mod Succeeding
pub mod Table
mod Unranking
pub mod Fillings
