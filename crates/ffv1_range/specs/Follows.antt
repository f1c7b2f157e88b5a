-- What a decoder reads in several steps.
use Rattle.std.specs.Prelude.{◌≡◌, ℕ, List}
use Rattle.ffv1_range.specs.Interval.{Interval, narrowed}
use Rattle.ffv1_range.specs.Codes.{AreStates}
use Rattle.ffv1_range.specs.Table.{Table}
use Rattle.ffv1_range.specs.Reading.{Reading, At}
use Rattle.ffv1_range.specs.Symbols.{Step, moved_by, decided}
use Rattle.ffv1_range.specs.Counts.{Counted}

-- the decoder read these steps, and moved the states by them
pub record Follows (t : Table) (old : Reading) (states : List ℕ) (new : Reading) (after : List ℕ)
    (steps : List Step) : Type 0 where
  pub bytes : new.bytes ≡ old.bytes
  pub at : (i : Interval) → At old i → At new (narrowed i (decided t states steps))
  pub counts : Counted old.counts steps new.counts
  pub moves : after ≡ moved_by t states steps
  pub named : AreStates (decided t states steps)
