pub mod Models
pub mod Readings
