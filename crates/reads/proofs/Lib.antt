pub mod Reading
pub mod Classes
