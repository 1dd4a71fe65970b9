pub mod Keys
pub mod Items
pub mod Heads
