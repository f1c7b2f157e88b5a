-- What ties calls within the crate to the definitions. No public clause cites it.
pub mod Clusters
pub mod Encoding
pub mod Pack
pub mod PackMatroska
pub mod Picture
pub mod Plane
pub mod TextMd5
pub mod Verifying
pub mod VideoReads
