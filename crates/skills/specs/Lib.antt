pub mod Value
pub mod Strains
pub mod Chart
pub mod Shown
pub mod Strands
