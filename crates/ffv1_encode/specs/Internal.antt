pub mod CellRows
pub mod HasPut
pub mod Scratch
