mod FaultsLocated
pub mod FramesInTurn
pub mod FramesShown
pub mod Openings
pub mod FrameDecoded
pub mod FileRead
pub mod FramesPlayed
mod FramesTold
mod FramesCarried
mod FramesUnpacked
pub mod FilePlayed
pub mod FramesPassed
mod FramesNoted
mod FileChecked
mod FramesJudged
mod FileJudged
pub mod OpenedAs
mod ItemsJudged
mod ItemsCued
mod ItemsCourse
mod FileEnded
mod BehindTold
mod ItemsEnding
mod ToldFirst
mod ToldAgain
mod ToldChecks
mod FileItems
mod PicturesWritten
mod FileUnpacked
mod WholeRange
mod RangePlayed
mod ImageLines
mod ImagesWritten
mod ImagesRepeated
mod ImagesSoFar
mod StreamText
mod FileShown
pub mod FileSteps
pub mod PayloadsRead
mod LineParts
mod FirstMovis
pub mod OwnFaults
pub mod ReadAgain
mod Md5sSoFar
mod Md5Numbers
mod Md5Lists
mod FramesCompared
mod FramesInParts
mod PartsShown
mod AllJudged
mod SalvageLists
mod SalvageSteps
mod FileSalvaged
mod SalvageEnding
mod SalvagedEnd
mod SalvageTold
mod ToldUnpacked
mod UnpackedTold
mod OpenedTold
mod SalvageLaws
mod PicturesPut
