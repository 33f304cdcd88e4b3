pub mod Constants
pub mod Island
pub mod Counts
pub mod Step
pub mod Rhythm
pub mod Comparisons
