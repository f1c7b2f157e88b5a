use Rattle.std.proofs.Common.{◌*◌}
use Rattle.ffv1_samples.specs.Samples.{samples_of}
use Rattle.ffv1_rct.specs.Lines.{AreOnlyColoursIn, IsKeptFrom}
use Rattle.ffv1_rct.proofs.words.inverse_words.Given as goal

abbrev pub invariant-loop-x : goal.invariant-loop-x
invariant-loop-x l = record {
  filled : AreOnlyColoursIn l.depth l.x l.y l.cb l.cr (samples_of l.depth l.r)
      (samples_of l.depth l.g) (samples_of l.depth l.b);
  red : IsKeptFrom (2 * l.x) l.initial.r l.r;
  green : IsKeptFrom (2 * l.x) l.initial.g l.g;
  blue : IsKeptFrom (2 * l.x) l.initial.b l.b;
}
