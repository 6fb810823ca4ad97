pub mod Working
pub mod Grids
pub mod Alike
