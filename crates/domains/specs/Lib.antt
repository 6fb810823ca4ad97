pub mod Tables
pub mod Gaps
pub mod Consistent
