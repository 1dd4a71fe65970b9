pub mod Refused
pub mod Outcomes
