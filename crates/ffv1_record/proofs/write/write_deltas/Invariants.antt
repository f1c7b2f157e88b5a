use Rattle.std.proofs.Common.{take}
use Rattle.ffv1_record.specs.Record.{deltas_steps}
use Rattle.ffv1_record.specs.Writable.{AreDeltas}
use Rattle.ffv1_record.specs.Internal.Written.{Wrote}
use Rattle.ffv1_record.proofs.write.write_deltas.Given as goal

abbrev pub invariant-loop-k : goal.invariant-loop-k
invariant-loop-k g l = record {
  wrote : Wrote (λ _. deltas_steps (take l.k l.deltas)) 0 l.fn.writer l.writer;
  writable : AreDeltas (take l.k l.deltas);
}
