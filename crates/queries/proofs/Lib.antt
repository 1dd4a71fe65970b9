pub mod Refused
pub mod Walked
pub mod Matching
pub mod Numbers
pub mod Bounds
pub mod Gathering
pub mod Tested
pub mod Outcomes
