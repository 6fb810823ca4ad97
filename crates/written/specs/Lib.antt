pub mod Held
pub mod Writing
