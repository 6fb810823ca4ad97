pub mod Constraints
pub mod Links
