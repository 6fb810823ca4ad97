pub mod Walk
pub mod Seats
pub mod Placing
