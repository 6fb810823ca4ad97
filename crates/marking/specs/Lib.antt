pub mod Marking
pub mod Equipped
