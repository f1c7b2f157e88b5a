pub mod ClassRoom
pub mod ColumnsOpen
pub mod SegmentLooked
pub mod SegmentReads
pub mod SegmentTied
