pub mod Constants
pub mod Flashlight
