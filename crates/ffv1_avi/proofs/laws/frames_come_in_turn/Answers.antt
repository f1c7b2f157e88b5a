-- The frames are the next one and those after it; at the end there is none, and nothing is read.
use Rattle.std.proofs.Common.{refl}
use Rattle.ffv1_avi.specs.Places.{ended}
use Rattle.ffv1_avi.proofs.FrameTurns.{frames_step}
use Rattle.ffv1_avi.proofs.Moves.{frame_ends}
use Rattle.ffv1_avi.proofs.laws.frames_come_in_turn.Goals as goal

pub returns : goal.returns
returns c = record { next = frames_step; end = frame_ends ended refl refl }
