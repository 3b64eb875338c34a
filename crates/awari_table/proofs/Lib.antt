pub mod ShelfLemmas
mod ColumnLemmas
mod RunLemmas
pub mod CertificateLemmas
mod CountLemmas
pub mod EntryLemmas
mod LineLaws
mod BlockLaws
mod Loop
pub mod TextLaws
pub mod Spelled
