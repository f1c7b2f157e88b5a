use Rattle.std.proofs.Common.{◌≡◌, ◌≤◌, true, nat_lt, sum, take}
use Rattle.std.specs.List.{list_all}
use Rattle.ffv1_plane.proofs.table.fills.Given as goal

abbrev pub invariant-loop-run : goal.invariant-loop-run
invariant-loop-run l = record {
  filled : l.filled ≡ sum (take l.run-index l.runs);
  room : l.filled ≤ 128;
  positive : list_all (λ r. nat_lt 0 r) (take l.run-index l.runs) ≡ true;
}
