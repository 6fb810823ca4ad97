pub mod Rules
pub mod Pairs
pub mod Claims
pub mod Books
pub mod Sets
pub mod Values
