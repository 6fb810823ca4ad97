pub mod Rows
pub mod Levels
