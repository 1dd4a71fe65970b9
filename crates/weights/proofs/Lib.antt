pub mod Largest
pub mod Powers
pub mod Table
pub mod Laws
