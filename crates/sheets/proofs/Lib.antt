pub mod Blocks
pub mod Entries
pub mod Opening
pub mod Reading
pub mod Writing
