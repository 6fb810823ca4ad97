pub mod Decided
pub mod Either
