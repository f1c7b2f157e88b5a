use Rattle.std.proofs.Common.{◌≡◌, ℕ, ◌<◌, slice_index}
use Rattle.ffv1_rct.specs.Lines.{IsKeptFrom}
use Rattle.ffv1_rct.proofs.narrow.narrow_rest.Given as goal

abbrev pub invariant-loop-x : goal.invariant-loop-x
invariant-loop-x l = record {
  filled : (k : ℕ) → k < l.x → slice_index l.out k ≡ slice_index l.a k;
  kept : IsKeptFrom l.x l.initial.out l.out;
}
