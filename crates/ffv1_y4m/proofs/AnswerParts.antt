-- Answers, taken apart.
use Rattle.std.proofs.Common.{◌≡◌, ℕ, Bool, true, false, Option, Some, None, List, [], Result, Ok, Err, refl, ap}
use Rattle.std.proofs.lemmas.Bool.{true≢false}
use Rattle.ffv1_y4m.specs.Sequence.{◌>>=◌}
use Rattle.ffv1_y4m.specs.Sequence.{Outcome, Reading}

abbrev pub value_in : {X : Type 0} → X → Outcome X → X
value_in d (Ok p) = p.0
value_in d (Err f) = d

abbrev pub rest_in : {X : Type 0} → Outcome X → List ℕ
rest_in (Ok p) = p.1
rest_in (Err f) = []

abbrev pub is_fault : {X E : Type 0} → Result X E → Bool
is_fault (Ok p) = false
is_fault (Err f) = true

abbrev pub is_some : {X : Type 0} → Option X → Bool
is_some None = false
is_some (Some x) = true

abbrev pub some_in : {X : Type 0} → X → Option X → X
some_in d None = d
some_in d (Some x) = x

-- two readings in a row, taken apart
pub record Parted {X Y : Type 0} (first : Outcome X) (next : X → Reading Y) (y : Y) (rest : List ℕ) : Type 0 where
  pub value : X
  pub mid : List ℕ
  pub begins : first ≡ Ok (value, mid)
  pub goes_on : next value mid ≡ Ok (y, rest)

pub parted_by : {X Y : Type 0} (first : Outcome X) (next : X → Reading Y) (y : Y) (rest : List ℕ) → (first >>= λ p. next p.0 p.1) ≡ Ok (y, rest) → Parted first next y rest
parted_by (Ok p) next y rest h = record { value = p.0; mid = p.1; begins = refl; goes_on = h }
parted_by (Err f) next y rest h = absurd (true≢false (ap is_fault h))
