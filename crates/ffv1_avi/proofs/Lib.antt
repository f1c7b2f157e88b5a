mod Sizes
mod EndReadings
mod Contents
mod ChunkByChunk
mod TakenBytes
mod BegunRiffs
mod OpenCases
mod Moves
mod FirstFrames
pub mod FrameTurns
pub mod TakenChunks
pub mod ListWalks
pub mod OpenedLists
mod ListedNames
mod RecLists
pub mod PassedBytes
pub mod Fields
pub mod StreamCounts
mod StreamLaws
pub mod InnerLists
pub mod TotalLaws
pub mod OtherStreams
pub mod HeaderLaws
pub mod TopLaws
pub mod PartLaws
pub mod OpenLaws
pub mod FrameLaws
pub mod MoviFrames
pub mod FileLaws
pub mod RiffLaws
mod OpenRests
mod RiffRests
pub mod WholeLaws
pub mod HeaderRuns
pub mod LaterFrames
pub mod EveryRiffLaws
pub mod WrittenLaws
pub mod WrittenRiffs
pub mod BeginningLaws
pub mod EarlyEnds
pub mod EarlyRiffs
pub mod EdgeLaws
pub mod AfterLaws
pub mod BehindLaws
pub mod RefusalLaws
pub mod LongLaws
pub mod RiffRefusals
pub mod LongMovis
pub mod GivenFrames
pub mod EmptyFrames
mod ReadingFaults
mod ChunkReadings
mod RiffReadings
mod OpenReadings
mod OpenPieces
mod OpenFileLaws
mod SpotReadings
mod StepBytes
mod WrittenEnds
pub mod Agreeing
pub mod FrameSteps
pub mod HeardChunks
pub mod HeardOpens
pub mod HeardRiffs
pub mod HeardTurns
pub mod ItemLaws
pub mod ItemReadings
pub mod PaddedFrames
pub mod ShorterTexts
pub mod SoughtBytes
pub mod SoughtFrames
mod SoundEnds
pub mod TurnAnswers
pub mod TurnsMade
mod EndedTurns
pub mod CountedChunks
pub mod TakenSteps
pub mod FollowedFaults
pub mod OpenedCounts
pub mod EarlyPieces
pub mod OpenEdges
pub mod NearOpen
pub mod OpenBeginnings
