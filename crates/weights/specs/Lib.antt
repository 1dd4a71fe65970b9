pub mod Weights
pub mod Thresholds
