-- How states move (RFC 9043, 3.8.1.4).
use Rattle.std.specs.Prelude.{ℕ, ◌+◌, ◌-◌, ◌≤◌, ◌<◌, Bool, true, false, List, slice_index}

-- a floor, and where each state goes after a 1
pub record Table : Type 0 where
  pub floor : ℕ
  pub one : List ℕ

-- the state after a decision
abbrev pub moved : Table → ℕ → Bool → ℕ
moved t state true = slice_index t.one state
moved t state false = 256 - slice_index t.one (256 - state)

-- the table may be used at this state, and again at what it becomes
pub record Holds (t : Table) (state : ℕ) : Type 0 where
  pub positive : 0 < state
  pub small : state < 256
  pub least : t.floor ≤ state
  pub most : state + t.floor ≤ 256

-- each state that is held stays so, and a fresh state is held
pub record IsTable (floor : ℕ) (one : List ℕ) : Type 0 where
  pub positive : 0 < floor
  pub middle : floor ≤ 128
  pub least : (state : ℕ) → floor ≤ state → state + floor ≤ 256 → floor ≤ slice_index one state
  pub most : (state : ℕ) → floor ≤ state → state + floor ≤ 256 → slice_index one state + floor ≤ 256
