pub mod Lists
pub mod Folding
pub mod Local
