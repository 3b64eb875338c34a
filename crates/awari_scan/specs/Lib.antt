pub mod Found
pub mod Scan
