pub mod KeptPicture
pub mod LinePlaces
pub mod OfferedLines
pub mod SinkFaults
