-- What ties registers, arrays and types of the code to the definitions. No public clause cites it.
pub mod Views
pub mod Came
pub mod Hears
pub mod Ending
pub mod Offsets
