pub mod List
pub mod Example
