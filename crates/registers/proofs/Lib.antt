pub mod Chains
pub mod Sorted
