pub mod Grids
pub mod Working
