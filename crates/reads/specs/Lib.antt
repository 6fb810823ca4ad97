pub mod Reads
pub mod Classes
