pub mod Words
pub mod Promises
