pub mod Refused
pub mod Outcomes
pub mod Lengths
