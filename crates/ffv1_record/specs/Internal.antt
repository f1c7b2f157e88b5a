-- What ties registers, arrays and types of the code to the definitions. No public clause cites it.
pub mod Given
pub mod Outlines
pub mod Written
