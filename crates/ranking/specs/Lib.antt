pub mod Hits
pub mod Top
pub mod Asked
