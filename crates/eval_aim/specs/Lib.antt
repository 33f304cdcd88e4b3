pub mod Constants
pub mod Aim
