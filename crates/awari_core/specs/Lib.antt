pub mod CoreFault
pub mod Core
