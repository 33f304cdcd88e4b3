pub mod Constants
pub mod Cursor
pub mod Record
pub mod Reading
