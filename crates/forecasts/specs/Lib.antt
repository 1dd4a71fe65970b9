pub mod Plan
pub mod Course
pub mod Outlook
pub mod Sketches
