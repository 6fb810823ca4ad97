pub mod Seats
pub mod Writing
