pub mod Theorem
pub mod Cases
