pub mod Finding
pub mod Read
