pub mod Layout
pub mod Reading
pub mod Formed
pub mod Headers
pub mod Terms
pub mod Readers
