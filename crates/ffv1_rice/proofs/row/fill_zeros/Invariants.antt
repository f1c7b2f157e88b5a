use Rattle.std.proofs.Common.{◌≡◌, ◌<◌, ◌≤◌, ◌^◌, ℕ, pos, slice_index}
use Rattle.ffv1_line.specs.Beside.{chosen_beside}
use Rattle.ffv1_rice.specs.Rows.{AgreeBelow}
use Rattle.ffv1_rice.proofs.row.fill_zeros.Given as goal

abbrev pub invariant-loop-x : goal.invariant-loop-x
invariant-loop-x g l = record {
  agree : AgreeBelow l.from l.cur l.fn.cur;
  zeros : (k : ℕ) → l.from ≤ k → k < l.x → chosen_beside l.below.set.now l.depth l.two l.one l.cur
      k ≡ pos 0;
  samples : (k : ℕ) → l.from ≤ k → k < l.x → slice_index l.cur k < 2 ^ l.depth;
}
