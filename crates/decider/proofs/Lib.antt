pub mod Deciding
pub mod Listed
pub mod Alike
