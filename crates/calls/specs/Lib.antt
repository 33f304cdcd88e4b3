pub mod Simulation
pub mod Tables
pub mod Afresh
pub mod Conditions
pub mod Calls
pub mod Statement
