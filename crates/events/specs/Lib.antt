pub mod Event
pub mod Verdicts
