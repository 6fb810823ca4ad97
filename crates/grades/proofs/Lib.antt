pub mod Rows
pub mod OneTerm
