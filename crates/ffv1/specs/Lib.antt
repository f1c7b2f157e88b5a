pub mod Streams
pub mod Opened
pub mod Infos
pub mod Made
pub mod Against
