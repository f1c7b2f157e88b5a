use Rattle.std.proofs.Common.{◌≡◌, ℕ, ◌≤◌, ◌<◌, ◌-◌, length, slice_index}
use Rattle.ffv1_rct.specs.Lines.{IsKeptFrom}
use Rattle.ffv1_rct.proofs.narrow.narrow_line.Given as goal

abbrev pub invariant-loop-at : goal.invariant-loop-at
invariant-loop-at l = record {
  inside : l.at ≤ length l.a;
  done : (k : ℕ) → k < l.at → slice_index l.out k ≡ slice_index l.a k;
  kept : IsKeptFrom l.at l.initial.out l.out;
}

abbrev pub decreases-loop-at : goal.decreases-loop-at
decreases-loop-at l = length l.a - l.at
