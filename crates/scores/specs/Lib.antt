pub mod Terms
pub mod Scores
