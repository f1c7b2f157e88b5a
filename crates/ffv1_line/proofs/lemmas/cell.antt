pub mod Beside
pub mod Cells
pub mod Joined
pub mod Narrow
pub mod Rows
