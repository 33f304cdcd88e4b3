pub mod Limits
pub mod Header
pub mod Verdict
pub mod Conditions
pub mod Same
pub mod Accepted
