pub mod Terms
pub mod Quantified
pub mod Roles
pub mod Interpretations
pub mod Table
pub mod Books
pub mod Links
