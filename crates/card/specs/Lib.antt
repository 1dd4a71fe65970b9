pub mod Blocks
pub mod Chains
pub mod Cursors
pub mod Marks
