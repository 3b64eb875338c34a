pub mod Runs
pub mod IndexFields
