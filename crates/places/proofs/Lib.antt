pub mod Homes
pub mod Places
