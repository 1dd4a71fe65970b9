pub mod Statement
pub mod Table
