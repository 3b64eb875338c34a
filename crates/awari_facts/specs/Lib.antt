pub mod Facts
pub mod Loads
pub mod Numbers
pub mod Sources
pub mod Left
