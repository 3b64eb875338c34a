pub mod Places
pub mod Opening
pub mod Faults
pub mod Runs
pub mod Asked
pub mod Lasting
