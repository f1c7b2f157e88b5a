use Rattle.std.proofs.Common.{◌≡◌, ◌*◌, length, take}
use Rattle.ffv1_y4m.proofs.PairSteps.{rows_to}
use Rattle.ffv1_y4m.proofs.pairs.interleave_pairs.Given as goal

abbrev pub invariant-loop-place : goal.invariant-loop-place
invariant-loop-place l =
    (length l.text ≡ 3 * length l.red)
    × (take (6 * l.place) l.text ≡ rows_to l.place l.red l.green l.blue)
