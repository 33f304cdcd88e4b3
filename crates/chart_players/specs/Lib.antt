pub mod Second
pub mod Under
pub mod Commutes
pub mod Verdicts
