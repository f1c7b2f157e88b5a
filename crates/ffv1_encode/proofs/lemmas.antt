pub mod cell_rows
pub mod frame
pub mod slice
pub mod slice_body
pub mod slice_bytes
