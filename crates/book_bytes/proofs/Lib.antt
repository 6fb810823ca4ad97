pub mod Writing
pub mod Claims
pub mod Pairs
pub mod Sets
pub mod Repeats
