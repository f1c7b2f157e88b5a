pub mod PlanesReads
