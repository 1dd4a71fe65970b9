pub mod Promises
pub mod Acted
