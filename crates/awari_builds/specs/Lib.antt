pub mod CommandFault
pub mod Estimates
pub mod Building
pub mod Migrating
pub mod Serving
pub mod Seconds
