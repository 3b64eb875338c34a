pub mod Commands
pub mod Joined
pub mod Making
pub mod Named
pub mod Requests
