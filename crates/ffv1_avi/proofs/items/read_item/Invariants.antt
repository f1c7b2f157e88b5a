use Rattle.std.specs.Prelude.{◌-◌}
use Rattle.ffv1_reads.proofs.Reading.{Goes}
use Rattle.ffv1_avi.specs.Items.{ended_by, ended_up_to, item_read, item_up_to}
use Rattle.ffv1_avi.proofs.EndedTurns.{EndedSoFar}
use Rattle.ffv1_avi.proofs.items.read_item.Given as goal

abbrev pub invariant-loop-turn : goal.invariant-loop-turn
invariant-loop-turn g l =
    Goes (item_read l.fn.course) (g.R.ByteIn.remaining l.initial.input)
    (g.R.ByteIn.failures l.initial.input)
    (item_up_to (18446744073709551615 - l._turn) l.course) (g.R.ByteIn.remaining l.input)
    (g.R.ByteIn.failures l.input)
    × EndedSoFar (ended_by l.fn.course) (ended_up_to (18446744073709551615 - l._turn) l.course)
    (g.R.ByteIn.remaining l.initial.input) (g.R.ByteIn.remaining l.input)
