pub mod Entries
pub mod Kinds
pub mod Same
