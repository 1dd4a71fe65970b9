pub mod Flush
pub mod Targets
