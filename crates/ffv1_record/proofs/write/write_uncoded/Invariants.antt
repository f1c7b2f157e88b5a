use Rattle.ffv1_record.specs.Record.{uncoded_steps}
use Rattle.ffv1_record.specs.Internal.Written.{Wrote}
use Rattle.ffv1_record.proofs.write.write_uncoded.Given as goal

abbrev pub invariant-loop-index : goal.invariant-loop-index
invariant-loop-index g l = Wrote (λ _. uncoded_steps l._index) 0 l.fn.writer l.writer
