pub mod Keys
pub mod Collect
pub mod Groups
