pub mod SharedColumns
