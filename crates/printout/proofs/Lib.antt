pub mod Decimal
pub mod Adding
pub mod Lines
pub mod Whole
