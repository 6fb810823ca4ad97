pub mod Refusals
pub mod Questions
pub mod Answers
