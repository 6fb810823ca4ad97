pub mod Survivors
pub mod Complete
pub mod Listed
pub mod Marks
pub mod Witnesses
pub mod Sharing
