pub mod Weighed
pub mod Verdicts
pub mod Counts
pub mod Turns
pub mod Pairs
pub mod Refused
