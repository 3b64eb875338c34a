pub mod Hosts
pub mod Known
