pub mod Lines
pub mod Transform
