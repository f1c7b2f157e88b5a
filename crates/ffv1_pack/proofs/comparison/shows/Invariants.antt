use Rattle.std.proofs.Common.{◌≡◌, take, IsTrue, ◌↔◌}
use Rattle.ffv1_pack.proofs.comparison.shows.Given as goal

abbrev pub invariant-loop-x : goal.invariant-loop-x
invariant-loop-x l = IsTrue l.same ↔ (take l.x l.line ≡ take l.x l.samples)
