pub mod Candidates
pub mod Links
pub mod Sharing
