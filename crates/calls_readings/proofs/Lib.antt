pub mod Outcomes
pub mod OutcomesAs
pub mod Details
