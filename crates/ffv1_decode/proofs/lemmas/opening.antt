pub mod Openings
pub mod RowOpenings
