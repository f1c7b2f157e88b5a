use Rattle.std.specs.Prelude.{◌≡◌, ◌<◌}
use Rattle.ffv1_avi.specs.declared.place.Open.TheVariants.{Sized}
use Rattle.ffv1_avi.specs.Files.{movi_sought}
use Rattle.ffv1_avi.specs.Opens.{visit_riff}
use Rattle.ffv1_reads.specs.Reads.{given, ◌>>=◌}
use Rattle.ffv1_avi.specs.Offsets.{ReadsUpTo, riff_left}
use Rattle.ffv1_avi.specs.Walk.{walk}
use Rattle.ffv1_reads.proofs.Reading.{Goes}
use Rattle.ffv1_avi.proofs.riff.seek_movi.Given as goal

abbrev pub invariant-loop-entry : goal.invariant-loop-entry
invariant-loop-entry g l =
    (Goes (movi_sought l.fn.place.names l.fn.place.riff) (g.R.ByteIn.remaining l.initial.input)
    (g.R.ByteIn.failures l.initial.input)
    (walk (visit_riff l.fn.place.names) l.left tt >>= λ p. given p.1) (g.R.ByteIn.remaining l.input)
    (g.R.ByteIn.failures l.input))
    × (l.fn.place.open_in ≡ Sized → 0 < l.fn.place.input → ReadsUpTo (riff_left l.fn.place l.fn.place.riff)
    (g.R.ByteIn.remaining l.initial.input) (g.R.ByteIn.remaining l.input)
    (riff_left l.fn.place l.left) l.initial.offset l.offset)

abbrev pub decreases-loop-entry : goal.decreases-loop-entry
decreases-loop-entry g l = l.left
