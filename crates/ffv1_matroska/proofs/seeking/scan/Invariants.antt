use Rattle.std.specs.Prelude.{◌-◌}
use Rattle.ffv1_reads.proofs.Reading.{Goes}
use Rattle.ffv1_matroska.specs.Turns.{scanned}
use Rattle.ffv1_matroska.proofs.seeking.scan.Given as goal

abbrev pub invariant-loop-passed : goal.invariant-loop-passed
invariant-loop-passed g l =
    Goes (scanned l.fn.left 0) (g.R.ByteIn.remaining l.initial.input)
    (g.R.ByteIn.failures l.initial.input)
    (scanned (l.fn.left - l.passed) l.matched) (g.R.ByteIn.remaining l.input)
    (g.R.ByteIn.failures l.input)
