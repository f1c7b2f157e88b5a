use Rattle.std.proofs.Common.{◌*◌}
use Rattle.ffv1_samples.specs.Samples.{samples_of}
use Rattle.ffv1_rct.specs.Lines.{AreOnlyColoursIn, IsKeptFrom}
use Rattle.ffv1_rct.proofs.wide.inverse_wide.Given as goal

abbrev pub invariant-loop-x : goal.invariant-loop-x
invariant-loop-x l = record {
  filled : AreOnlyColoursIn 16 l.x l.y l.cb l.cr (samples_of 16 l.r) (samples_of 16 l.g)
      (samples_of 16 l.b);
  red : IsKeptFrom (2 * l.x) l.initial.r l.r;
  green : IsKeptFrom (2 * l.x) l.initial.g l.g;
  blue : IsKeptFrom (2 * l.x) l.initial.b l.b;
}
