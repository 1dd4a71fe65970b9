pub mod Views
pub mod Probe
pub mod Shown
pub mod Levels
pub mod Rules
