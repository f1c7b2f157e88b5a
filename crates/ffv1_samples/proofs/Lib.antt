pub mod Depths
pub mod Pairs
