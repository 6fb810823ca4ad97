pub mod Sweeps
pub mod Lent
