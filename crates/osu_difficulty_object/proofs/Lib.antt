pub mod Radii
pub mod Walk
pub mod Backwards
pub mod Placing
pub mod Laws
pub mod Accepted
