pub mod Slots
pub mod Rows
pub mod Collecting
