pub mod Refused
pub mod Filling
