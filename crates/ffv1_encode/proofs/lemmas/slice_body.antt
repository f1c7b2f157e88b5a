pub mod Bodies
pub mod Classes
pub mod Windows
