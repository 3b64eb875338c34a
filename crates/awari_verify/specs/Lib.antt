pub mod Sights
pub mod Rule
pub mod FirstFailure
pub mod VerifyFault
pub mod Pieces
pub mod Shares
pub mod Older
