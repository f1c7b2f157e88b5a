-- The decisions of a symbol, by their slots (RFC 9043, 3.8.1.2).
use Rattle.std.specs.Prelude.{◌≡◌, ℕ, ◌+◌, ◌/◌, ◌%◌, ◌<◌, Bool, true, false, ◌==◌, nat_lt, min}
use Rattle.std.specs.Prelude.{if◌then◌else◌, List, [], ◌∷◌, ◌++◌, length, slice_index, slice_set}
use Rattle.std.specs.Prelude.{ℤ, pos, negsuc}
use Rattle.std.proofs.Common.{zero, suc}
use Rattle.ffv1_range.specs.Interval.{Decision}
use Rattle.ffv1_range.specs.Table.{Table, Holds, moved}

-- a decision at a slot
pub record Step : Type 0 where
  pub slot : ℕ
  pub bit : Bool

-- so many decisions 1 of an exponent
unfoldable pub raising : ℕ → List Step
raising zero = []
raising (suc k) = raising k ++ (record { slot = 1 + min k 9; bit = true } ∷ [])

-- an exponent: its ones, and a 0
abbrev pub exponent_steps : ℕ → List Step
exponent_steps e = raising e ++ (record { slot = 1 + min e 9; bit = false } ∷ [])

-- so many low bits of a number, the highest first; the lowest stands at this place
abbrev pub mantissa_steps : ℕ → ℕ → ℕ → List Step
mantissa_steps zero place n = []
mantissa_steps (suc count) place n =
    mantissa_steps count (suc place) (n / 2) ++
    (record { slot = 22 + min place 9; bit = (n % 2) == 1 } ∷ [])

-- how often a number is halved until 1 is left, or none, in so many steps at most
unfoldable pub halvings : ℕ → ℕ → ℕ
halvings zero n = 0
halvings (suc most) n = if nat_lt n 2 then 0 else suc (halvings most (n / 2))

-- the place of the highest bit
abbrev pub exponent : ℕ → ℕ
exponent n = halvings n n

-- a number that is not zero
abbrev pub magnitude_steps : ℕ → List Step
magnitude_steps n =
    ((record { slot = 0; bit = false } ∷ []) ++ exponent_steps (exponent n))
    ++ mantissa_steps (exponent n) 0 n

-- a number that is not zero, and its sign
abbrev pub sized_steps : ℕ → Bool → List Step
sized_steps n negative = magnitude_steps n ++
    (record { slot = 11 + min (exponent n) 10; bit = negative } ∷ [])

-- the symbol of a number without a sign
abbrev pub unsigned_steps : ℕ → List Step
unsigned_steps zero = record { slot = 0; bit = true } ∷ []
unsigned_steps (suc n) = magnitude_steps (suc n)

-- the symbol of a number
abbrev pub signed_steps : ℤ → List Step
signed_steps (pos zero) = record { slot = 0; bit = true } ∷ []
signed_steps (pos (suc n)) = sized_steps (suc n) false
signed_steps (negsuc n) = sized_steps (suc n) true

-- a symbol that is refused
abbrev pub too_long : List Step
too_long = (record { slot = 0; bit = false } ∷ []) ++ raising 31

-- the states after a step
abbrev pub stepped : Table → List ℕ → Step → List ℕ
stepped t states s = slice_set states s.slot (moved t (slice_index states s.slot) s.bit)

-- the states after some steps
abbrev pub moved_by : Table → List ℕ → List Step → List ℕ
moved_by t states [] = states
moved_by t states (s ∷ ss) = moved_by t (stepped t states s) ss

-- the decisions of some steps
abbrev pub decided : Table → List ℕ → List Step → List Decision
decided t states [] = []
decided t states (s ∷ ss) =
    record { state = slice_index states s.slot; bit = s.bit } ∷ decided t (stepped t states s) ss

-- the states of a symbol, each held by the table
pub record AreHeld (t : Table) (states : List ℕ) : Type 0 where
  pub count : length states ≡ 32
  pub held : (slot : ℕ) → slot < 32 → Holds t (slice_index states slot)

-- steps at slots after base
abbrev pub shifted : ℕ → List Step → List Step
shifted base [] = []
shifted base (s ∷ ss) = record { slot = base + s.slot; bit = s.bit } ∷ shifted base ss

-- many states, each held by the table
pub record AllHeld (t : Table) (states : List ℕ) : Type 0 where
  pub held : (slot : ℕ) → slot < length states → Holds t (slice_index states slot)
