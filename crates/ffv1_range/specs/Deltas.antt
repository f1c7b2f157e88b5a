-- Tables of states by deltas (RFC 9043, 4.2.4).
use Rattle.std.specs.Prelude.{◌≡◌, ◌≢◌, ℕ, ◌+◌, ◌-◌, ◌≤◌, ◌<◌, ◌⊎◌, nat_lt, if◌then◌else◌, List}
use Rattle.std.specs.Prelude.{length, slice_index, slice_index_or, ℤ, pos, negsuc, ◌+ℤ◌, ◌≤ℤ◌}
use Rattle.std.proofs.Common.{zero, suc}
use Rattle.ffv1_range.specs.Standard.{default_state_transition}
use Rattle.ffv1_range.specs.Table.{Table}

-- where a state goes after a 1: the standard's entry and the delta of the state, whatever number
-- that is
abbrev pub entry_of : List ℤ → ℕ → ℤ
entry_of deltas zero = pos 0
entry_of deltas (suc k) =
    pos (slice_index default_state_transition (suc k)) +ℤ slice_index_or deltas k (pos 0)

-- a number below 256, and 0 for any other
abbrev pub byte_of : ℤ → ℕ
byte_of (pos n) = if nat_lt n 256 then n else 0
byte_of (negsuc n) = 0

-- the states from floor to 256 less floor go to such states
pub record IsFloor (deltas : List ℤ) (floor : ℕ) : Type 0 where
  pub positive : 0 < floor
  pub middle : floor ≤ 128
  pub least : (state : ℕ) → floor ≤ state → state + floor ≤ 256 → pos floor ≤ℤ entry_of deltas state
  pub most : (state : ℕ) → floor ≤ state → state + floor ≤ 256 →
      entry_of deltas state ≤ℤ pos (256 - floor)

-- the table of some deltas
pub record IsTableOf (deltas : List ℤ) (t : Table) : Type 0 where
  pub sound : (k : ℕ) → k < length deltas → slice_index_or deltas k (pos 0) ≢ negsuc 2147483647
  pub floor : IsFloor deltas t.floor
  pub lowest : (floor : ℕ) → IsFloor deltas floor → t.floor ≤ floor
  pub long : length t.one ≡ 256
  pub entries : (state : ℕ) → state < 256 →
      slice_index t.one state ≡ byte_of (entry_of deltas state)

-- some deltas make no table: one is the least number of 32 bits, or there is no floor
abbrev pub HaveNoTable : List ℤ → Type 0
HaveNoTable deltas =
    ((k : ℕ) × ((k < length deltas) × (slice_index_or deltas k (pos 0) ≡ negsuc 2147483647))) ⊎
    ((floor : ℕ) → IsFloor deltas floor → ⊥)
