pub mod Writes
pub mod Moves
