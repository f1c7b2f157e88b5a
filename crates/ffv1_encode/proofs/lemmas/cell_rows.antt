pub mod RowsShown
