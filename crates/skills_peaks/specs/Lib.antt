pub mod Peaks
pub mod Drawing
pub mod Placed
