use Rattle.ffv1_avi.specs.Files.{movi_found}
use Rattle.ffv1_avi.specs.Opens.{visit_movi}
use Rattle.ffv1_reads.specs.Reads.{given, ◌>>=◌}
use Rattle.ffv1_avi.specs.Offsets.{ReadsUpTo, movi_left}
use Rattle.ffv1_avi.specs.Names.{rule_of}
use Rattle.ffv1_avi.specs.Walk.{walk_in}
use Rattle.ffv1_reads.proofs.Reading.{Goes}
use Rattle.ffv1_avi.proofs.movi.find_in_movi.Given as goal

abbrev pub invariant-loop-entry : goal.invariant-loop-entry
invariant-loop-entry g l =
    (Goes (movi_found l.fn.place.names l.fn.place.movi) (g.R.ByteIn.remaining l.initial.input)
    (g.R.ByteIn.failures l.initial.input)
    (walk_in (rule_of l.fn.place.names) (visit_movi l.fn.place.names) l.left tt >>= λ p. given p.1)
    (g.R.ByteIn.remaining l.input) (g.R.ByteIn.failures l.input))
    × ReadsUpTo l.fn.place (g.R.ByteIn.remaining l.initial.input) (g.R.ByteIn.remaining l.input)
    (movi_left l.fn.place l.left) l.initial.offset l.offset

abbrev pub decreases-loop-entry : goal.decreases-loop-entry
decreases-loop-entry g l = l.left
