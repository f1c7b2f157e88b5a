-- What an encoder writes in several steps.
use Rattle.std.specs.Prelude.{◌≡◌, ℕ, ◌<◌, ◌⊎◌, IsTrue, List}
use Rattle.ffv1_range.specs.Interval.{Interval, narrowed}
use Rattle.ffv1_range.specs.Codes.{AreStates}
use Rattle.ffv1_range.specs.Table.{Table}
use Rattle.ffv1_range.specs.Writing.{Writing}
use Rattle.ffv1_range.specs.Symbols.{Step, moved_by, decided}
use Rattle.ffv1_range.specs.Counts.{Counted}

-- the encoder wrote these steps, and moved the states by them
pub record Puts (t : Table) (old : Writing) (states : List ℕ) (new : Writing) (after : List ℕ)
    (steps : List Step) : Type 0 where
  pub interval : new.interval ≡ narrowed old.interval (decided t states steps)
  pub counts : Counted old.counts steps new.counts
  pub failed : new.failed ≡ old.failed
  pub moves : after ≡ moved_by t states steps
  pub named : AreStates (decided t states steps)

-- these steps make more bytes of an interval
pub record Grows (t : Table) (i : Interval) (states : List ℕ) (steps : List Step) : Type 0 where
  pub more : i.count < (narrowed i (decided t states steps)).count

-- why a put of these steps may be refused: the encoder had failed before, or its bytes are to grow
abbrev pub MayBeRefused : Table → Writing → List ℕ → List Step → Type 0
MayBeRefused t old states steps = IsTrue old.failed ⊎ Grows t old.interval states steps
