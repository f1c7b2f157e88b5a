pub mod Agreeing
pub mod Lengths
pub mod MostDecisions
pub mod SameRow
pub mod SameRowAfter
pub mod SamplesBelow
pub mod Suits
pub mod ThreeRows
