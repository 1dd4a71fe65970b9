pub mod Both
pub mod Judged
pub mod Opening
