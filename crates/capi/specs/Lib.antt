pub mod Exports
pub mod Queries
