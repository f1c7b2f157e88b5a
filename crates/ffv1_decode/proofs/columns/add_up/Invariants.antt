use Rattle.std.proofs.Common.{◌≡◌, ◌++◌, take}
use Rattle.ffv1_range.specs.Table.{Table}
use Rattle.ffv1_frame.specs.Decoding.{State}
use Rattle.ffv1_decode.specs.Internal.Tied.{AreTold}
use Rattle.ffv1_decode.specs.Internal.Tallies.{tally_over}
use Rattle.ffv1_decode.proofs.columns.add_up.Given as goal

abbrev pub invariant-loop-k : goal.invariant-loop-k
invariant-loop-k l = (t : Table) (s : State) → l.fn.before ≡ tally_over t s.done → AreTold t
    l.columns s → l.tally ≡ tally_over t (s.done ++ take l.k s.columns)
