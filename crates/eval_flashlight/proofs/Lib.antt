pub mod Repeats
pub mod Walk
