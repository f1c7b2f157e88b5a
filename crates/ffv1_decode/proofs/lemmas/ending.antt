pub mod BitsEnd
