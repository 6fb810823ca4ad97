pub mod Decisions
pub mod Questions
pub mod Answers
pub mod Search
pub mod Lists
pub mod Digits
pub mod Connectives
