pub mod Shared
pub mod Local
pub mod Without
pub mod Checked
pub mod Written
pub mod Accepted
