pub mod BitBodies
pub mod BitLines
pub mod LineBits
