use Rattle.std.proofs.Common.{take}
use Rattle.ffv1_record.specs.Writable.{AreDeltas}
use Rattle.ffv1_record.proofs.config.have_symbols.Given as goal

abbrev pub invariant-loop-k : goal.invariant-loop-k
invariant-loop-k l = AreDeltas (take l.k l.deltas)
