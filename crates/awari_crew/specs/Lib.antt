pub mod Members
pub mod Posting
pub mod Homes
pub mod Begun
pub mod Gathered
