pub mod Refused
pub mod ByteRule
