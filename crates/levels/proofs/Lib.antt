pub mod Counts
pub mod Runs
pub mod Replaced
pub mod Choosing
