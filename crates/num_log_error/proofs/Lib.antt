pub mod LogError
pub mod Readings
pub mod Examples
