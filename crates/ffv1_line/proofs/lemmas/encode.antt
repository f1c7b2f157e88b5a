pub mod BlockLanes
pub mod NineBits
