pub mod Walk
pub mod Seats
pub mod Pruning
pub mod Prepared
pub mod Placing
