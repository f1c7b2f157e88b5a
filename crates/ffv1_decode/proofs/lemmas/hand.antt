pub mod LinesHanded
