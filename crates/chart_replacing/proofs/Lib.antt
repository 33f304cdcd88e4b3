pub mod Copy
pub mod Local
pub mod Searched
pub mod Accepted
