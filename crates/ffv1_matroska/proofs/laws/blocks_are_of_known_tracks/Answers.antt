-- A block is of a track that Tracks have.
use Rattle.ffv1_matroska.proofs.BlockLaws.{unknown_refused}
use Rattle.ffv1_matroska.proofs.KnownNumbers.{added_known}
use Rattle.ffv1_matroska.proofs.laws.blocks_are_of_known_tracks.Goals as goal

pub returns : goal.returns
returns c = record { refused = unknown_refused; added = added_known }
