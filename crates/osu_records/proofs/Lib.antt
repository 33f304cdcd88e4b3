pub mod Laws
pub mod Filling
pub mod Parts
