pub mod Batch
pub mod Steps
