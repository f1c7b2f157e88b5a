use Rattle.std.proofs.Common.{◌≡◌, take}
use Rattle.ffv1_samples.specs.Samples.{numbers_of_pairs}
use Rattle.ffv1_encode.proofs.cell_rows.widen_pairs.Given as goal

abbrev pub invariant-loop-x : goal.invariant-loop-x
invariant-loop-x g l = take l.x (g.W.Word.samples l.row) ≡ take l.x (numbers_of_pairs l.samples)
