pub mod Difficulty
pub mod FloatExt
