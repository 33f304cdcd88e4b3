pub mod Rows
pub mod Fill
pub mod Part
pub mod Sight
