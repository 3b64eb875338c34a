pub mod FolderFault
pub mod NextFile
pub mod Verifying
pub mod Contents
pub mod Candidates
pub mod Host
pub mod Keeping
pub mod State
