pub mod Refused
pub mod Takes
pub mod Given
pub mod Takeables
pub mod Turns
