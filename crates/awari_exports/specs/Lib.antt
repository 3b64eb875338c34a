pub mod Boards
pub mod Files
pub mod Held
pub mod Owned
pub mod Told
