pub mod Bits
pub mod Views
