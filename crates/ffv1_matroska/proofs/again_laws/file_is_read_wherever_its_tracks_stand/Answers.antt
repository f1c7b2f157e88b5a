-- A file by its elements is read as its head and its frames, wherever its Tracks stand, and it has
-- no others.
use Rattle.ffv1_matroska.proofs.AgainLaws.{again_complete, again_only, before_segment}
use Rattle.ffv1_matroska.proofs.again_laws.file_is_read_wherever_its_tracks_stand.Goals as goal

pub returns-clause-read : goal.returns-clause-read
returns-clause-read c = λ file head frames is. again_complete file head frames is

pub returns-clause-only : goal.returns-clause-only
returns-clause-only c = λ file head other frames others is also.
    again_only file head other frames others is also

pub returns-clause-before : goal.returns-clause-before
returns-clause-before c = λ file head frames is. before_segment file head frames is
