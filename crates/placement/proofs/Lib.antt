pub mod Dictionary
pub mod Outcome
pub mod Pairs
pub mod Singles
pub mod Sharing
