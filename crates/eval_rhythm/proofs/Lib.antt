pub mod Signed
pub mod Search
pub mod Good
pub mod History
pub mod Laws
pub mod Bounded
