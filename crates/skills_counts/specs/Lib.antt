pub mod Lists
pub mod Counts
pub mod Chart
pub mod Fold
