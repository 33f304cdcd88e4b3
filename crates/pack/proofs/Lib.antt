pub mod Checks
pub mod Rated
pub mod Lists
pub mod Joined
pub mod Theorems
