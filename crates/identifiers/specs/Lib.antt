pub mod Names
pub mod Register
pub mod Formed
