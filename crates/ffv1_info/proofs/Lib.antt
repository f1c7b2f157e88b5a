mod FactText
mod Groups
mod FramesRead
mod FramesTold
mod FileTold
mod OutlineTold
mod LowestTerms
