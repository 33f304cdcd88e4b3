pub mod Own
pub mod Moves
pub mod Theorems
