pub mod Second
pub mod Both
pub mod Same
pub mod Statement
