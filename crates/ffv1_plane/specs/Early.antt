-- What the rows above decide of a sample, before the samples to its left are known.
use Rattle.std.specs.Prelude.{ℕ, ◌≡◌, ◌+◌, ◌-◌, ◌*◌, ◌<◌, min, max, List, [], length, take}
use Rattle.std.specs.Prelude.{slice_index, slice_index_or, pos, ◌+ℤ◌}
use Rattle.std.proofs.Common.{zero, suc}
use Rattle.ffv1_plane.specs.Quantisation.{Set, entry, scale_behind, contexts_of}
use Rattle.ffv1_plane.specs.Context.{low}

-- the sample above to the left of place x, if two and one are the rows two and one above: to the
-- left of a row stands the sample above its first (RFC 9043, 3.1)
abbrev pub left_above : List ℕ → List ℕ → ℕ → ℕ
left_above two one zero = slice_index two 0
left_above two one (suc x) = slice_index one x

-- the sample above to the right: after the end of a row stands its last sample (RFC 9043, 3.1)
abbrev pub right_above : List ℕ → ℕ → ℕ
right_above one x = slice_index one (min (x + 1) (length one - 1))

-- the greatest entry of table i
abbrev pub greatest : Set → ℕ → ℕ
greatest set i = scale_behind 1 (take i set) * (length (slice_index_or set i []) - 1)

-- sum is that of the three entries that the rows above decide, each raised by its table's greatest,
-- and of 32768 less the sum of the five greatest: with the two other entries, raised too, it makes
-- 32768 and the context
pub record IsEarly (set : Set) (tl t tr tt sum : ℕ) : Type 0 where
  pub is : pos (sum + contexts_of set) ≡ entry set 1 (low tl t) +ℤ entry set 2 (low t tr) +ℤ entry
      set 4 (low tt t) +ℤ pos (greatest set 1 + greatest set 2 + greatest set 4 + 32769)

-- the same for some samples above, above to the right and two above
pub record IsEarlySomewhere (set : Set) (tl sum : ℕ) : Type 0 where
  pub t : ℕ
  pub tr : ℕ
  pub tt : ℕ
  pub early : IsEarly set tl t tr tt sum

-- the same of the first n places from a position on
pub record AreEarly (set : Set) (two one : List ℕ) (from : ℕ) (sum : List ℕ) (n : ℕ) : Type 0 where
  pub each : (i : ℕ) → i < n → IsEarly set (left_above two one (from + i))
      (slice_index one (from + i)) (right_above one (from + i)) (slice_index two (from + i))
      (slice_index sum i)

-- the samples above to the left and above of the first n places from a position on
pub record AreAbove (two one : List ℕ) (from : ℕ) (tl t : List ℕ) (n : ℕ) : Type 0 where
  pub tl_is : (i : ℕ) → i < n → slice_index tl i ≡ left_above two one (from + i)
  pub t_is : (i : ℕ) → i < n → slice_index t i ≡ slice_index one (from + i)

-- the lesser and the greater one of two samples, of the first n places
pub record AreBounds (tl t least most : List ℕ) (n : ℕ) : Type 0 where
  pub least_is : (i : ℕ) → i < n → slice_index least i ≡ min (slice_index tl i) (slice_index t i)
  pub most_is : (i : ℕ) → i < n → slice_index most i ≡ max (slice_index tl i) (slice_index t i)
