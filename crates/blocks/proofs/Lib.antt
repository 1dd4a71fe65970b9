pub mod ByteRule
pub mod FreeBlocks
pub mod Refills
pub mod Releasing
pub mod Stored
pub mod Stores
pub mod Taking
