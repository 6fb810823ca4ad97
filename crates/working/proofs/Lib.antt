pub mod Working
pub mod Agreement
