pub mod Survivors
pub mod Listed
pub mod Marks
