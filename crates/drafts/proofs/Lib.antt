pub mod Comparing
mod Apart
