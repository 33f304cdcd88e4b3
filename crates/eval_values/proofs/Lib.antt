pub mod Local
pub mod Rows
