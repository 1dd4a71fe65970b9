pub mod Views
pub mod Resuming
pub mod Tallies
pub mod Room
pub mod Judged
pub mod Taking
pub mod Batches
