use Rattle.std.proofs.Common.{◌<◌, ◌≤◌, ◌+◌, ◌-◌}
use Rattle.ffv1_plane.specs.Early.{AreEarly}
use Rattle.ffv1_plane.proofs.early.fill_sums.Given as goal

abbrev pub invariant-loop-at : goal.invariant-loop-at
invariant-loop-at g l = record {
  inside : 0 < l.rows.from + l.at;
  some : l.at ≤ l.count;
  done : AreEarly l.rows.set.now l.rows.two.now l.rows.one.now l.rows.from l.sum l.at;
}

abbrev pub decreases-loop-at : goal.decreases-loop-at
decreases-loop-at g l = l.count - l.at
