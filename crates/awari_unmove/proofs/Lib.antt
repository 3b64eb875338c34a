mod Unsowing
mod Unmoving
mod Listed
mod Quiet
mod Predecessors
mod Undoing
pub mod Walking
mod Ends
mod Sown
mod OwnSide
mod FarSide
