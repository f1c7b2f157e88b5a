-- Two files whose parts differ only in where the first Tracks stand have one head and the same
-- frames.
use Rattle.ffv1_matroska.proofs.AgainLaws.{moved_same}
use Rattle.ffv1_matroska.proofs.again_laws.tracks_may_stand_anywhere.Goals as goal

pub returns : goal.returns
returns c = λ file other head also frames others is moved a b d t here there same none more.
    moved_same file other head also frames others is moved a b d t here there same none more
