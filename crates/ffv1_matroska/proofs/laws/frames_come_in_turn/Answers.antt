-- The frames of a track are the next one and those after it; at the end there is none, and nothing
-- is read.
use Rattle.std.proofs.Common.{refl}
use Rattle.ffv1_matroska.specs.Places.{ended}
use Rattle.ffv1_matroska.proofs.FoundFrames.{frame_ends}
use Rattle.ffv1_matroska.proofs.FrameTurns.{frames_next}
use Rattle.ffv1_matroska.proofs.laws.frames_come_in_turn.Goals as goal

pub returns : goal.returns
returns c = record {
  next = frames_next;
  end = λ track text. frame_ends track ended refl refl refl
      text;
}
