pub mod Rows
pub mod Forms
pub mod Kept
