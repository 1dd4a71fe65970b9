pub mod Query
pub mod Walks
pub mod Gathered
pub mod Finds
