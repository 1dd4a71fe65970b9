pub mod Removal
pub mod Taking
pub mod Promises
