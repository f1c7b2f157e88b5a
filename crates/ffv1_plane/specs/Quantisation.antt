-- Quantisation table sets by their runs.
use Rattle.std.specs.Prelude.{ℕ, ◌≡◌, ◌+◌, ◌-◌, ◌*◌, ◌/◌, ◌≤◌, Bool, ◌&&◌, ◌==◌, nat_lt, nat_le}
use Rattle.std.specs.Prelude.{if◌then◌else◌, IsTrue, List, [], ◌∷◌, length, sum, take}
use Rattle.std.specs.Prelude.{slice_index_or, ℤ, pos, ◌-ℤ◌}
use Rattle.std.specs.List.{list_all}
use Rattle.std.proofs.Common.{suc}

-- a set, as the runs of its five tables: how many entries after one another of a table's lower half
-- are equal
abbrev pub Set : Type 0
Set = List (List ℕ)

-- whether the runs of a table fill its lower half of 128 entries, none of them empty
abbrev pub is_filled : List ℕ → Bool
is_filled runs = list_all (λ r. nat_lt 0 r) runs && (sum runs == 128)

abbrev pub are_filled : Set → Bool
are_filled set = list_all is_filled set

-- how many runs have their last place below k
abbrev pub runs_below : List ℕ → ℕ → ℕ
runs_below [] k = 0
runs_below (r ∷ rs) k = if nat_le r k then suc (runs_below rs (k - r)) else 0

-- RFC 9043, 4.1: entry k of a table; the upper half is the lower one with its signs flipped
abbrev pub entry_of : List ℕ → ℕ → ℕ → ℤ
entry_of runs scale k =
    if nat_lt k 128 then pos (scale * runs_below runs k)
    else if k == 128 then pos 0 -ℤ pos (scale * runs_below runs 127)
    else pos 0 -ℤ pos (scale * runs_below runs (256 - k))

-- RFC 9043, 4.1: the scale after some tables, if it was `scale` before them
abbrev pub scale_behind : ℕ → Set → ℕ
scale_behind scale [] = scale
scale_behind scale (runs ∷ more) = scale_behind (scale * (2 * length runs - 1)) more

-- entry k of table i
abbrev pub entry : Set → ℕ → ℕ → ℤ
entry set i k = entry_of (slice_index_or set i []) (scale_behind 1 (take i set)) k

-- RFC 9043, 4.1: half of the scale after all tables, rounded up
abbrev pub contexts_of : Set → ℕ
contexts_of set = (scale_behind 1 set + 1) / 2

-- five tables, filled, with at most 32768 contexts
pub record IsSet (set : Set) : Type 0 where
  pub five : length set ≡ 5
  pub filled : IsTrue (are_filled set)
  pub few : contexts_of set ≤ 32768

-- the fourth and the fifth table have one level, so that the differences to the samples two to the
-- left and two above count for nothing
pub record HasThreeTables (set : Set) : Type 0 where
  pub fourth : length (slice_index_or set 3 []) ≡ 1
  pub fifth : length (slice_index_or set 4 []) ≡ 1

-- each table has at most eleven levels
pub record HasFewLevels (set : Set) : Type 0 where
  pub first : length (slice_index_or set 0 []) ≤ 6
  pub second : length (slice_index_or set 1 []) ≤ 6
  pub third : length (slice_index_or set 2 []) ≤ 6
  pub fourth : length (slice_index_or set 3 []) ≤ 6
  pub fifth : length (slice_index_or set 4 []) ≤ 6

-- three tables of eleven levels and two of one, in the form of RFC 9043, 4.1: a set of this codec's
-- own, of 666 contexts, whose differences to the samples two to the left and two above count for
-- nothing
abbrev pub small_set : Set
small_set =
    let runs = 1 ∷ 1 ∷ 3 ∷ 7 ∷ 11 ∷ 105 ∷ [] in
    runs ∷ runs ∷ runs ∷ (128 ∷ []) ∷ (128 ∷ []) ∷ []

-- three tables of eleven levels and two of five, in the form of RFC 9043, 4.1: a set of this
-- codec's own, of 16638 contexts
abbrev pub large_set : Set
large_set =
    let runs = 1 ∷ 1 ∷ 3 ∷ 7 ∷ 11 ∷ 105 ∷ [] in
    let wide = 3 ∷ 11 ∷ 114 ∷ [] in
    runs ∷ runs ∷ runs ∷ wide ∷ wide ∷ []
