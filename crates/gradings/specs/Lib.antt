pub mod Gradings
