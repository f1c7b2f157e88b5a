-- What ties registers, arrays and types of the code to the definitions, and the walk that finds the
-- slices. No public clause cites it.
pub mod Values
pub mod Walk
