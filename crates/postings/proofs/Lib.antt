pub mod Signs
pub mod Trips
pub mod Order
pub mod Sums
pub mod Merge
pub mod Counts
pub mod Spans
