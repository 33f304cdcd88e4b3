pub mod Lists
pub mod Lookup
pub mod Reading
pub mod Checked
pub mod Alike
