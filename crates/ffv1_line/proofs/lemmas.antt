pub mod cell
pub mod decode
pub mod encode
pub mod laws
