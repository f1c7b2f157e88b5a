use Rattle.std.proofs.Common.{◌≡◌, ◌+◌, ◌-◌, ◌*◌, ◌<◌, ◌≤◌, length, take, sum}
use Rattle.ffv1_plane.proofs.Levels.{IsRaisedBelow}
use Rattle.ffv1_plane.proofs.table.raise.Given as goal

abbrev pub invariant-loop-k : goal.invariant-loop-k
invariant-loop-k l = record {
  inside : l.run < length l.fn.runs;
  before : sum (take l.run l.fn.runs) < l.k;
  behind : l.k ≤ l.end;
  ends : l.end ≡ sum (take (l.run + 1) l.fn.runs);
  level : l.level ≡ l.fn.scale * l.run;
  raised : IsRaisedBelow l.fn.runs l.fn.scale (l.fn.scale * (length l.fn.runs - 1)) l.raised l.k;
}
