pub mod Beginnings
pub mod Counted
