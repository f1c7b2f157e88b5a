pub mod BitsBegin
pub mod BitsTied
