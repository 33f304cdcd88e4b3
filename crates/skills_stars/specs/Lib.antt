pub mod Constants
pub mod Stars
