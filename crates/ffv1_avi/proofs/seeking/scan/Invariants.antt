use Rattle.std.specs.Prelude.{◌≡◌, ◌-◌, ◌++◌, length}
use Rattle.ffv1_reads.proofs.Reading.{Goes}
use Rattle.ffv1_avi.specs.Turns.{sought, sought_from}
use Rattle.ffv1_avi.proofs.seeking.scan.Given as goal

abbrev pub invariant-loop-count : goal.invariant-loop-count
invariant-loop-count g l =
    Goes (λ text. sought l.fn.names (l.fn.window ++ text))
    (g.R.ByteIn.remaining l.initial.input) (g.R.ByteIn.failures l.initial.input)
    (λ text. sought_from (18446744073709551615 - l.count) l.fn.names l.count (l.head ++ text))
    (g.R.ByteIn.remaining l.input) (g.R.ByteIn.failures l.input)
    × (length l.head ≡ 8)
