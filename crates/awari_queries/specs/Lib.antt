pub mod Boards
pub mod Columns
pub mod Draws
pub mod Holding
pub mod Orders
pub mod Spans
