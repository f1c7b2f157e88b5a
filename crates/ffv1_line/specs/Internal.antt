-- What ties variables of the code to the definitions. No public clause cites it.
pub mod Along
pub mod Places
pub mod Parts
