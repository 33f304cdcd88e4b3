pub mod Playing
pub mod Kept
pub mod Entries
