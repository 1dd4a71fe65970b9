pub mod Ranks
pub mod Puts
pub mod Canonical
pub mod Adding
