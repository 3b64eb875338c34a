pub mod Batches
pub mod Boards
pub mod Folders
pub mod Listing
pub mod Segments
pub mod Texts
pub mod Walks
pub mod Wishes
