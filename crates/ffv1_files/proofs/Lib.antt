pub mod Answering
pub mod FirstByte
pub mod FileLaws
pub mod Openings
pub mod Nexts
mod OpenedRooms
mod Locations
mod ItemNexts
pub mod Behinds
mod NotedStreams
mod NotedTimes
mod NotedOpenings
mod Noted
mod NotedLaws
mod NotedOnce
mod NotedSegments
pub mod AgainOpenings
mod MoreBytes
mod LateTelling
mod SalvagedOpenings
pub mod ToldLists
mod ToldOpenings
mod WrittenNotes
mod WrittenSegments
