pub mod CommandLine
pub mod Order
pub mod Topic
