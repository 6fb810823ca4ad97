pub mod Listing
pub mod Filling
pub mod Rows
