pub mod Counting
pub mod Alone
pub mod Flushed
pub mod Flushes
pub mod Rooms
pub mod Targets
pub mod Refused
