pub mod Bounded
pub mod Powers
