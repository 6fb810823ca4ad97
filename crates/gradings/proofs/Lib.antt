pub mod Gradings
pub mod Above
