pub mod Kept
pub mod Refusals
