pub mod Names
pub mod Entries
pub mod Added
pub mod Lent
