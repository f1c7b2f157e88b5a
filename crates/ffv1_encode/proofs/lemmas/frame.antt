pub mod Frames
pub mod KeptScratch
