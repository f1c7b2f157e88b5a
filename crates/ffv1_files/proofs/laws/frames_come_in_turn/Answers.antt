-- The frames are the next one and those after it.
use Rattle.ffv1_files.proofs.FileLaws.{in_turn}
use Rattle.ffv1_files.proofs.laws.frames_come_in_turn.Goals as goal

pub returns : goal.returns
returns c = in_turn c.frames_come_in_turn.ensures.next c.frames_come_in_turn-2.ensures.next
