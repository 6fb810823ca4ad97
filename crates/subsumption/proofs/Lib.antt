pub mod Subsumption
pub mod Sharing
