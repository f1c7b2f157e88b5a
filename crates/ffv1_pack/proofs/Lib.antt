mod KnownTaken
mod Hexadecimal
mod PlaneRows
mod PlaneCount
mod Refusals
mod Compared
mod PlaneBack
mod VideoHeads
mod VideoPictures
pub mod VideoFits
mod VideoChecks
mod FrameBack
mod PicturesEncoded
mod PicturesRead
pub mod ReadableFrames
mod PicturesSoFar
mod ClustersPut
mod VideoEncoded
mod MatroskaFinished
mod MatroskaPacked
mod VideoEnds
mod ConfigurationJudged
mod FrameBytes
mod FilePacked
mod TextLines
mod GridLists
mod GridsPass
