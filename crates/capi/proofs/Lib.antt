pub mod Carried
pub mod Places
