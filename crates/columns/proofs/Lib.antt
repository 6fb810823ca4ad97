pub mod Cells
pub mod Bounds
pub mod Rows
pub mod Workable
