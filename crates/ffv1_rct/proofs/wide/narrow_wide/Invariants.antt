use Rattle.std.proofs.Common.{ℕ, ◌*◌, ◌^◌, ◌<◌, slice_index}
use Rattle.ffv1_rct.specs.Lines.{IsKeptFrom}
use Rattle.ffv1_rct.proofs.WordLines.{AreBytesOf}
use Rattle.ffv1_rct.proofs.wide.narrow_wide.Given as goal

abbrev pub invariant-loop-x : goal.invariant-loop-x
invariant-loop-x l = record {
  bytes : AreBytesOf 16 l.x l.out l.a;
  before : (k : ℕ) → k < l.x → slice_index l.a k < 2 ^ 16;
  kept : IsKeptFrom (2 * l.x) l.initial.out l.out;
}
