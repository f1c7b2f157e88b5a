use Rattle.std.specs.Prelude.{◌-◌}
use Rattle.ffv1_reads.proofs.Reading.{Goes}
use Rattle.ffv1_matroska.specs.CuedItems.{cued_item, cued_up_to}
use Rattle.ffv1_matroska.specs.Items.{item_read, item_up_to}
use Rattle.ffv1_matroska.proofs.CuedTurns.{CuedSoFar}
use Rattle.ffv1_matroska.proofs.items.read_item.Given as goal

abbrev pub invariant-loop-turn : goal.invariant-loop-turn
invariant-loop-turn g l =
    Goes (item_read l.track l.fn.course) (g.R.ByteIn.remaining l.initial.input)
    (g.R.ByteIn.failures l.initial.input)
    (item_up_to (18446744073709551615 - l._turn) l.track l.course) (g.R.ByteIn.remaining l.input)
    (g.R.ByteIn.failures l.input)
    × CuedSoFar (cued_item l.track l.fn.course l.fn.cued)
    (cued_up_to (18446744073709551615 - l._turn) l.track l.course l.cued)
    (g.R.ByteIn.remaining l.initial.input) (g.R.ByteIn.remaining l.input)
