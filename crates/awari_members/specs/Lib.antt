pub mod Forms
pub mod Json
pub mod Members
