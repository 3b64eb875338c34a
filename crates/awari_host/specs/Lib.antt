pub mod Gaps
pub mod Hosts
