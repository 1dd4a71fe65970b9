pub mod Judging
pub mod Ahead
