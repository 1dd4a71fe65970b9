pub mod Ranking
pub mod Tops
pub mod Sorting
pub mod Asked
pub mod Scores
