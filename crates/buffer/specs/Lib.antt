pub mod Places
pub mod Canonical
