pub mod Decided
pub mod Placing
