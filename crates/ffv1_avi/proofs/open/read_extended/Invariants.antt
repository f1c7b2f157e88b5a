use Rattle.std.proofs.Common.{ℕ, ◌%◌, Option}
use Rattle.ffv1_avi.specs.Files.{extended_read, visit_extended}
use Rattle.ffv1_reads.specs.Reads.{Reading, given, passed, ◌>>=◌}
use Rattle.ffv1_avi.specs.Walk.{walk}
use Rattle.ffv1_reads.proofs.Reading.{Goes}
use Rattle.ffv1_avi.proofs.open.read_extended.Given as goal

abbrev pub ended : ℕ → Option ℕ × Option ⊥ → Reading (Option ℕ)
ended size p = passed (size % 2) >>= λ _. given p.0

abbrev pub invariant-loop-entry : goal.invariant-loop-entry
invariant-loop-entry g l =
    Goes (extended_read l.fn.frames l.fn.size) (g.R.ByteIn.remaining l.initial.input)
    (g.R.ByteIn.failures l.initial.input)
    (walk visit_extended l.left l.frames >>= ended l.fn.size) (g.R.ByteIn.remaining l.input)
    (g.R.ByteIn.failures l.input)

abbrev pub decreases-loop-entry : goal.decreases-loop-entry
decreases-loop-entry g l = l.left
