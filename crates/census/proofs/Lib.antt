pub mod Marks
pub mod Counts
pub mod Lives
pub mod Walking
pub mod Parts
