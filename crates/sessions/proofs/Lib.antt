pub mod Carried
pub mod Fields
pub mod Program
pub mod Taking
