use Rattle.std.proofs.Common.{take, ◌*◌}
use Rattle.ffv1_record.specs.Record.{sets_steps}
use Rattle.ffv1_record.specs.Internal.Written.{Wrote}
use Rattle.ffv1_record.proofs.write.write_sets.Given as goal

abbrev pub invariant-loop-index : goal.invariant-loop-index
invariant-loop-index g l = Wrote (λ base. sets_steps base (take l.index l.sets)) (160 * l.index)
    l.fn.writer l.writer
