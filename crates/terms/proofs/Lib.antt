pub mod Fronts
pub mod Steps
pub mod Runs
pub mod Puts
pub mod Ranges
pub mod Stored
