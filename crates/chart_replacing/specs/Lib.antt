pub mod Local
pub mod Replace
pub mod Put
pub mod Replaced
pub mod Accepted
