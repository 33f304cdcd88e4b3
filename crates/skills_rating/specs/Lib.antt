pub mod Constants
pub mod Mods
pub mod Rating
