pub mod Pack
pub mod Statement
