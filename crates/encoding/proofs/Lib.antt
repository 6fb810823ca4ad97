pub mod Words
pub mod Stretches
pub mod Bits
