pub mod Constants
pub mod Speed
