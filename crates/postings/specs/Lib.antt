pub mod Order
pub mod Pack
pub mod Merge
pub mod Sums
pub mod Spans
