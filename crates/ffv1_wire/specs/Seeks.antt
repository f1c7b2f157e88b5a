-- How a writer that can be sent to a place is written over.
use Rattle.std.specs.Prelude.{◌≡◌, ◌⊎◌, ℕ, ◌-◌, ◌<◌, ◌≤◌, Bool, true, false, List, Option, Some}
use Rattle.std.specs.Prelude.{None, Result, Ok, Err, IfSome, if◌then◌else◌}
use Rattle.std.specs.Io.KnownBytes.{Appends}
use Rattle.ffv1_wire.specs.Writes.{AppendsBeginning}
use Rattle.ffv1_wire.specs.declared.Failed.{Failed}

-- the writer before it was asked where it stands, what it told, and the writer after that
abbrev pub Telling : Type 0 → Type 1
Telling S = S → Option ℕ → S → Type 0

-- the writer before it was sent to a place, the place, whether it went, and the writer after that
abbrev pub Going : Type 0 → Type 1
Going S = S → ℕ → Bool → S → Type 0

-- the writer before it was to be written over, how many bytes before its end, by which bytes, the
-- answer, and the writer after that
abbrev pub Overwriting : Type 0 → Type 1
Overwriting S = S → ℕ → List ℕ → Result Bool Failed → S → Type 0

-- a known place is told, if any is, and stays
abbrev pub TellsPlace : Option ℕ → Option ℕ → Option ℕ → Type 0
TellsPlace old told new = IfSome old (λ place. IfSome told (λ n. n ≡ place) × (new ≡ Some place))

-- a known place becomes the one to which the writer was sent, or stays
abbrev pub GoesTo : Option ℕ → ℕ → Bool → Option ℕ → Type 0
GoesTo old place done new = IfSome old (λ at. new ≡ Some (if done then place else at))

-- a writer told that it stands at `end`, and then went to what begins so many bytes before it
pub record Reaches {S : Type 0} (tells : Telling S) (goes : Going S) (old : S) (back : ℕ)
    (end : ℕ) (there : S) : Type 0 where
  pub asked : S
  pub told : tells old (Some end) asked
  pub long : back ≤ end
  pub went : goes asked (end - back) true there

-- bytes are written at so many before the end, where the writer had gone; then it goes back to the
-- end
pub record WritesThere {S : Type 0} (contents : S → Option (List ℕ)) (tells : Telling S)
    (goes : Going S) (old : S) (back : ℕ) (bytes : List ℕ) (returns : Bool) (new : S)
    : Type 0 where
  pub end : ℕ
  pub there : S
  pub reaches : Reaches tells goes old back end there
  pub behind : S
  pub writes : Appends (contents there) (contents behind) bytes
  pub went : goes behind end returns new

-- a write there failed
pub record StopsThere {S : Type 0} (contents : S → Option (List ℕ)) (tells : Telling S)
    (goes : Going S) (old : S) (back : ℕ) (bytes : List ℕ) (new : S) : Type 0 where
  pub end : ℕ
  pub there : S
  pub reaches : Reaches tells goes old back end there
  pub writes : AppendsBeginning (contents there) (contents new) bytes

-- a writer could not tell where it stands; or it had fewer bytes; or it could not go there
abbrev pub IsOutOfReach : {S : Type 0} → Telling S → Going S → S → ℕ → S → Type 0
IsOutOfReach {S = S} tells goes old back new =
    tells old None new
    ⊎ ((end : ℕ) × tells old (Some end) new × (end < back))
    ⊎ ((end : ℕ) × (asked : S) × tells old (Some end) asked × (back ≤ end)
    × goes asked (end - back) false new)

-- bytes are written over so many before the end, or nothing is, since that is out of reach; or a
-- write there failed, or the way back to the end
abbrev pub WritesOver : {S : Type 0} → (S → Option (List ℕ)) → Telling S → Going S → Overwriting S
WritesOver contents tells goes old back bytes (Ok true) new =
    WritesThere contents tells goes old back bytes true new
WritesOver contents tells goes old back bytes (Ok false) new =
    IsOutOfReach tells goes old back new
WritesOver contents tells goes old back bytes (Err e) new =
    StopsThere contents tells goes old back bytes new
    ⊎ WritesThere contents tells goes old back bytes false new
