pub mod Fits
pub mod Second
pub mod Edits
pub mod Outcomes
