pub mod Progress
pub mod Merged
pub mod Drafting
pub mod Refusing
pub mod Beginning
pub mod Stepping
pub mod Planning
