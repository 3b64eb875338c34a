pub mod FileText
pub mod FileFault
pub mod Reading
pub mod Source
pub mod Sealing
