pub mod Limits
pub mod Objects
pub mod Kinds
pub mod Search
pub mod Place
pub mod Same
