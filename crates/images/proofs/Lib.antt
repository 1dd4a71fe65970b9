pub mod Fits
pub mod Signs
pub mod Whole
pub mod Inverse
