pub mod Vints
pub mod Sums
pub mod Elements
pub mod Contents
pub mod Children
pub mod Spelled
pub mod Rows
pub mod Tried
