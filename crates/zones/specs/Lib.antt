pub mod Rows
pub mod Zones
