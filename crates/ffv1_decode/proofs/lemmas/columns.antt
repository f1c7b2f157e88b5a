pub mod TalliesUp
