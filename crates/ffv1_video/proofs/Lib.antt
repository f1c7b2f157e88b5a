pub mod KeptLines
pub mod Md5sGrown
pub mod Output
pub mod Depths
pub mod KnownTexts
mod PixelsHashed
pub mod EvenPlanes
mod SmallDigits
