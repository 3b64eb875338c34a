mod HeldLaws
pub mod HoldingLaws
pub mod Sampling
mod SpanLaws
mod SortLaws
