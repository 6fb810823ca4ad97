pub mod Equipped
pub mod Marking
