pub mod Grid
pub mod Head
pub mod Coding
pub mod Footer
pub mod Cutting
pub mod Length
pub mod Internal
