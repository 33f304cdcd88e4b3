pub mod Insert
pub mod OneMore
pub mod Recounted
pub mod Widened
pub mod Inserted
pub mod Removed
pub mod Accepted
pub mod Local
