pub mod Closing
pub mod Places
pub mod Rows
pub mod Walking
pub mod Shorter
