pub mod Answers
pub mod Order
pub mod Numbers
pub mod Unchanged
pub mod Calls
