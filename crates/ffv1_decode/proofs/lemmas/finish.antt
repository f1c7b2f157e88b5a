pub mod FinishedLines
pub mod LineFinished
pub mod WideColouring
