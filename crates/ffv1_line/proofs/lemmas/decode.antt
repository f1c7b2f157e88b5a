pub mod CellBack
pub mod EqualNeighbours
pub mod Prepared
pub mod Taken
pub mod Zeros
