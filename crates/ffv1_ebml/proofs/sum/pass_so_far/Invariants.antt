use Rattle.ffv1_reads.proofs.Reading.{Goes}
use Rattle.ffv1_ebml.specs.Sums.{passed_so_far}
use Rattle.ffv1_ebml.proofs.sum.pass_so_far.Given as goal

abbrev pub invariant-loop-left : goal.invariant-loop-left
invariant-loop-left g l =
    Goes (passed_so_far l.count l.so_far) (g.R.ByteIn.remaining l.initial.input)
    (g.R.ByteIn.failures l.initial.input)
    (passed_so_far l.left l.sum) (g.R.ByteIn.remaining l.input) (g.R.ByteIn.failures l.input)

abbrev pub decreases-loop-left : goal.decreases-loop-left
decreases-loop-left g l = l.left
