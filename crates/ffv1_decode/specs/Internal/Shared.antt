-- What is kept of a line from the row of slices above, and at which segment the line differs.
use Rattle.std.specs.Prelude.{◌≡◌, ◌⊎◌, ℕ, ◌+◌, ◌-◌, ◌*◌, ◌<◌, ◌≤◌, false, List, length}
use Rattle.std.specs.Prelude.{slice_index, drop}
use Rattle.ffv1_record.specs.Configuration.{Configuration, is_rct}
use Rattle.ffv1_slice.specs.Grid.{division_of, down, shared_of}
use Rattle.ffv1_frame.specs.Picture.{plane, plane_count, plane_width}
use Rattle.ffv1_frame.specs.Order.{lines_down}
use Rattle.ffv1_frame.specs.Decoding.{State, left_of, width_in, slice_at}
use Rattle.ffv1_frame.specs.Windows.{window}
use Rattle.ffv1_decode.specs.Internal.Tied.{TiedKept, TiedLast, line_length}

-- place x of the segment that column k has of plane p, whose line begins at offset, is as kept
abbrev pub StandsKept : Configuration → ℕ → ℕ → ℕ → List ℕ → List ℕ → ℕ → Type 0
StandsKept c p k offset kept cur x =
    slice_index cur (offset + left_of c p k + x) ≡ slice_index kept (left_of c p k + x)

-- it is the first that is not
pub record IsFirstOther (c : Configuration) (p k offset : ℕ) (kept cur : List ℕ) (x : ℕ)
    : Type 0 where
  pub inside : x < width_in c p k
  pub other : StandsKept c p k offset kept cur x → ⊥
  pub before : (i : ℕ) → i < x → StandsKept c p k offset kept cur i

-- no two rows of slices share a line of plane p
abbrev pub ShareNoLine : Configuration → ℕ → Type 0
ShareNoLine c p = (r : ℕ) → r < c.rows → shared_of (down (division_of c) p) r ≡ 0

-- so many samples of plane p are kept: a line, or, if no two rows share one, none
abbrev pub KeepsLine : Configuration → ℕ → ℕ → Type 0
KeepsLine c p long = ((long ≡ 0) × ShareNoLine c p) ⊎ (long ≡ plane_width c p)

-- so many samples are kept: a line of Cb and one of Cr, or, if no two rows share one, none
abbrev pub KeepsChroma : Configuration → ℕ → Type 0
KeepsChroma c long =
    ((long ≡ 0) × ((p : ℕ) → ShareNoLine c p))
    ⊎ ((long ≡ 2 * plane_width c 1) × (is_rct c.colour ≡ false) × (3 ≤ plane_count c)
    × ShareNoLine c 0 × ShareNoLine c 3)

-- what is kept comes after the lines of planes that are coded together
abbrev pub kept_in : Configuration → List ℕ → List ℕ
kept_in c lines = drop (3 * line_length c) lines

-- the line of Cb, plane 1, or of Cr, plane 2, in what is kept
abbrev pub kept_line : Configuration → ℕ → List ℕ → List ℕ
kept_line c p kept = window ((p - 1) * plane_width c 1) (plane_width c 1) kept

-- plane p is one of them
abbrev pub IsChroma : ℕ → Type 0
IsChroma p = (0 < p) × (p < 3)

-- what is kept is what the slices above have
abbrev pub AreAbove : Configuration → ℕ → List ℕ → State → Type 0
AreAbove c r kept s =
    0 < length kept → (p y : ℕ) → IsChroma p → TiedKept c r p y (kept_line c p kept) s

-- what is kept of plane p is the last line that the slices of row r have, which have all lines
pub record IsLast (c : Configuration) (r p : ℕ) (kept : List ℕ) (s : State) : Type 0 where
  pub whole : (k : ℕ) → k < c.columns →
      lines_down c p r * width_in c p k ≤ length (plane (slice_at s k).cells p)
  pub last : TiedLast c r p kept s

-- the same holds of each plane before `next`
abbrev pub AreLast : Configuration → ℕ → ℕ → List ℕ → State → Type 0
AreLast c r next kept s =
    0 < length kept → (p : ℕ) → IsChroma p → p < next → IsLast c r p (kept_line c p kept) s
