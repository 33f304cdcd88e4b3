pub mod Osu
pub mod Path
pub mod Base
