pub mod Heads
pub mod Moves
pub mod Keys
pub mod Merged
pub mod Placed
