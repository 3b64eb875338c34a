pub mod Packed
pub mod TakenBack
