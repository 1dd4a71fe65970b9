pub mod Counts
pub mod Joined
pub mod Serving
pub mod Opened
