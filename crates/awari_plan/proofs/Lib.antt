mod LowestPlans
mod Consistency
mod Whole
mod Closing
