pub mod Filling
pub mod Eliminating
pub mod Lent
