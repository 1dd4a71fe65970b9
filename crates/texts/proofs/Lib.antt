pub mod Splitting
pub mod Reading
pub mod Appending
pub mod Decimals
pub mod Hits
