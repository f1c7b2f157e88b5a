mod TakenRows
mod UsualArguments
mod TakenOrder
mod TakenNames
mod TakenLine
mod Hyphens
mod AddedArgument
mod RangesNamed
