pub mod Terms
pub mod Values
