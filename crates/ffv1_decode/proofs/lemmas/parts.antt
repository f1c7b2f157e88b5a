pub mod PartPlaces
