pub mod answer
pub mod decoding
pub mod rice
pub mod sink
