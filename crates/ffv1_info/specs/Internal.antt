-- What ties calls within the crate to the definitions. No public clause cites it.
pub mod Frames
