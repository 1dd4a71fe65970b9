pub mod Parts
pub mod Turns
pub mod Leads
pub mod Ranges
pub mod Stored
pub mod Readable
