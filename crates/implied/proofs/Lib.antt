pub mod Implying
pub mod Alike
