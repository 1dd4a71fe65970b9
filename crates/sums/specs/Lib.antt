pub mod Views
pub mod Tally
pub mod Steps
