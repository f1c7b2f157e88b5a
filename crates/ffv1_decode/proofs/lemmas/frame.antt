pub mod RowsDecodes
