pub mod Cursors
pub mod Seeking
pub mod Chains
pub mod Links
pub mod Marking
