pub mod Chains
pub mod Order
