-- What a sink has made of a configuration's lines, if a fault is answered: it took a beginning of
-- them in their order, and it may have refused the line that came next.
use Rattle.std.specs.Prelude.{◌≡◌, ℕ, List, ◌∷◌, ◌++◌}
use Rattle.ffv1_wire.specs.Runs.{Grows, Line, LineStep, places_in}
use Rattle.ffv1_record.specs.Configuration.{Configuration}
use Rattle.ffv1_slice.specs.Grid.{division_of}
use Rattle.ffv1_frame.specs.Lines.{places_of}
use Rattle.ffv1_frame.specs.Kept.{IsLine}

-- it took a beginning of the lines, each in its place
pub record TakesInTurn {S : Type 0} (takes : LineStep S) (c : Configuration) (old new : S)
    : Type 0 where
  pub lines : List Line
  pub rest : List (ℕ × ℕ)
  pub turn : places_in lines ++ rest ≡ places_of c
  pub grows : Grows takes old lines new

-- and then refused the one that came next, row y of plane p
pub record RefusesInTurn {S : Type 0} (takes refuses : LineStep S) (c : Configuration)
    (old new : S) (p y : ℕ) : Type 0 where
  pub lines : List Line
  pub samples : List ℕ
  pub rest : List (ℕ × ℕ)
  pub between : S
  pub turn : places_in lines ++ ((p, y) ∷ rest) ≡ places_of c
  pub line : IsLine (division_of c) p y samples
  pub grows : Grows takes old lines between
  pub last : refuses between p y samples new
