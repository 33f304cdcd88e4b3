pub mod Same
pub mod Seen
pub mod Singles
pub mod Slots
