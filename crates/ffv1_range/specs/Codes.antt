-- What bytes code (RFC 9043, 3.8.1.1), and how a list of decisions ends (3.8.1.1.1 leaves that to
-- the encoder).
use Rattle.std.specs.Prelude.{ℕ, ◌+◌, ◌-◌, ◌*◌, ◌/◌, ◌%◌, ◌≤◌, ◌<◌, false, List, [], ◌∷◌, ◌++◌}
use Rattle.std.specs.Prelude.{slice_index, length, take, ◌⊎◌, ◌≡◌}
use Rattle.std.proofs.Common.{zero, suc}
use Rattle.ffv1_range.specs.Interval.{Interval, Decision, narrow, interval_of}

-- the number of the first bytes, big end first, with zeros after the end
abbrev pub value : List ℕ → ℕ → ℕ
value bytes zero = 0
value bytes (suc count) = 256 * value bytes count + slice_index bytes count

-- the number of the bytes lies in the interval
pub record Inside (bytes : List ℕ) (i : Interval) : Type 0 where
  pub above : i.low ≤ value bytes i.count
  pub below : value bytes i.count < i.low + i.width

-- the bytes code the decisions
abbrev pub Codes : List ℕ → List Decision → Type 0
Codes bytes ds = Inside bytes (interval_of ds)

-- a number in this many bytes, big end first
abbrev pub digits : ℕ → ℕ → List ℕ
digits zero n = []
digits (suc count) n = digits count (n / 256) ++ (n % 256 ∷ [])

-- the least multiple of 256 that is at least n
abbrev pub raised : ℕ → ℕ
raised n = 256 * ((n + 255) / 256)

-- the ending of an interval by all its bytes
abbrev pub full_of : Interval → List ℕ
full_of i = digits i.count i.low

-- the bytes but the last of the least multiple of 256 that is at least the low end
abbrev pub rounded_of : Interval → List ℕ
rounded_of i = take (i.count - 1) (digits i.count (raised i.low))

-- the ending of an interval by one more decision 0 with state 129, and without the last byte
abbrev pub sentinel_of : Interval → List ℕ
sentinel_of i = rounded_of (narrow i 129 false)

-- each is a byte, the zeros after the end too
abbrev pub AreBytes : List ℕ → Type 0
AreBytes bytes = (k : ℕ) → slice_index bytes k < 256

-- a state of a decision
pub record IsState (state : ℕ) : Type 0 where
  pub least : 0 < state
  pub most : state < 256

-- each decision has a state
abbrev pub AreStates : List Decision → Type 0
AreStates [] = Unit {0}
AreStates (d ∷ ds) = IsState d.state × AreStates ds

-- exactly one of two facts
pub record ExactlyOne (P Q : Type 0) : Type 0 where
  pub one : P ⊎ Q
  pub apart : P → Q → ⊥

-- each decision has the state that is named from the decisions before it, the last of which stand
-- in past
abbrev pub AreNamed : (List Decision → ℕ) → List Decision → List Decision → Type 0
AreNamed name past [] = Unit {0}
AreNamed name past (d ∷ ds) = (d.state ≡ name past) × AreNamed name (past ++ (d ∷ [])) ds

-- the only list of this many named decisions that the bytes code
pub record IsOnlyList (bytes : List ℕ) (name : List Decision → ℕ) (count : ℕ)
    (ds : List Decision) : Type 0 where
  pub long : length ds ≡ count
  pub named : AreNamed name [] ds
  pub codes : Codes bytes ds
  pub only : (es : List Decision) → length es ≡ count → AreNamed name [] es → Codes bytes es →
      es ≡ ds
