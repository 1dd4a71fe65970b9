pub mod Merging
pub mod Step
pub mod Acting
