-- The context of a sample.
use Rattle.std.specs.Prelude.{ℕ, ◌+◌, ◌*◌, ◌%◌, Bool, true, false, ℤ, pos, negsuc, ◌+ℤ◌}
use Rattle.std.specs.Prelude.{unsigned_abs}
use Rattle.ffv1_plane.specs.declared.prediction.Around.{Around}
use Rattle.ffv1_plane.specs.Quantisation.{Set, entry}

-- the low eight bits of a - b
abbrev pub low : ℕ → ℕ → ℕ
low a b = (a + 255 * b) % 256

-- RFC 9043, 3.5
abbrev pub context_of : Set → Around → ℤ
context_of set a =
    entry set 0 (low a.l a.tl) +ℤ entry set 1 (low a.tl a.t) +ℤ entry set 2 (low a.t a.tr) +ℤ entry
    set 3 (low a.ll a.l) +ℤ entry set 4 (low a.tt a.t)

abbrev pub is_negative : ℤ → Bool
is_negative (pos n) = false
is_negative (negsuc n) = true

-- the number of a sample's context
unfoldable pub size_of : Set → Around → ℕ
size_of set a = unsigned_abs (context_of set a)

-- whether the sign of a sample's difference is flipped
unfoldable pub flip_of : Set → Around → Bool
flip_of set a = is_negative (context_of set a)
