pub mod Serving
pub mod Tables
pub mod Planned
mod Following
mod Lowered
mod Lowerings
pub mod Alike
mod Worthing
mod HoldingOut
mod PlyLaws
pub mod Lasting
