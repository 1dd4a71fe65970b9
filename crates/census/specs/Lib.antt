pub mod Existing
pub mod Marks
pub mod Walks
