pub mod Predecessors
pub mod Undoing
pub mod Steps
