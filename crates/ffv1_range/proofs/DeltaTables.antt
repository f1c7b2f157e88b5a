-- A floor of some deltas is a floor of the bytes that they make.
use Rattle.std.proofs.Common.{◌≡◌, ◌≢◌, ℕ, ◌+◌, ◌-◌, ◌<◌, ◌≤◌, List, length, get_or, slice_set, arith, sym, subst, ◌∙◌, inl, inr, ℤ, pos, negsuc, ◌≤ℤ◌, get_or-set_same, get_or-set_other}
use Rattle.std.proofs.lemmas.Bool.{cases_lt, cases_eq, lt-ltb, le-ltb}
use Rattle.std.proofs.lemmas.Int.{ints}
use Rattle.ffv1_range.specs.Table.{IsTable}
use Rattle.ffv1_range.specs.Deltas.{entry_of, byte_of, IsFloor}

-- a number within a floor
record Within (m n : ℕ) : Type 0 where
  least : m ≤ n
  most : n + m ≤ 256

record WithinInt (m : ℕ) (z : ℤ) : Type 0 where
  least : pos m ≤ℤ z
  most : z ≤ℤ pos (256 - m)

byte_within : (m : ℕ) (z : ℤ) → 0 < m → m ≤ 128 → WithinInt m z → Within m (byte_of z)
byte_within m (negsuc n) positive middle w = absurd (omega (arith, ints, w.least))
byte_within m (pos n) positive middle w =
    let least : m ≤ n = omega (arith, ints, w.least) in
    let most : n + m ≤ 256 = omega (arith, ints, w.most) in
    rw (lt-ltb n 256 (omega arith)) (record { least = least; most = most })

within_byte : (m : ℕ) (z : ℤ) → 0 < m → m ≤ 128 → Within m (byte_of z) → WithinInt m z
within_byte m (negsuc n) positive middle w = absurd (omega (arith, w.least))
within_byte m (pos n) positive middle w = elim (cases_lt n 256) [
  | inl small ↦
      let here = rw (lt-ltb n 256 small) at w in
      let least = here.least in
      let most = here.most in
      record { least = omega (arith, ints); most = omega (arith, ints) }
  | inr large ↦ let here = rw (le-ltb n 256 large) at w in absurd (omega (arith, here.least))
]

module _ (deltas : List ℤ) (one : List ℕ) (entries : (state : ℕ) → state < 256 → get_or one state 0 ≡ byte_of (entry_of deltas state)) where
  pub table_of_floor : (m : ℕ) → IsFloor deltas m → IsTable m one
  table_of_floor m is =
      let positive = is.positive in
      let middle = is.middle in
      let each : (state : ℕ) → m ≤ state → state + m ≤ 256 → Within m (get_or one state 0) = λ state l h.
      subst (Within m) (sym (entries state (omega arith))) (byte_within m (entry_of deltas state) positive middle (record { least = is.least state l h; most = is.most state l h })) in
      record { positive = positive; middle = middle; least = λ state l h. (each state l h).least; most = λ state l h. (each state l h).most }

  pub floor_of_table : (m : ℕ) → IsTable m one → IsFloor deltas m
  floor_of_table m is =
      let positive = is.positive in
      let middle = is.middle in
      let each : (state : ℕ) → m ≤ state → state + m ≤ 256 → WithinInt m (entry_of deltas state) = λ state l h.
      within_byte m (entry_of deltas state) positive middle (subst (Within m) (entries state (omega arith)) (record { least = is.least state l h; most = is.most state l h })) in
      record { positive = positive; middle = middle; least = λ state l h. (each state l h).least; most = λ state l h. (each state l h).most }

-- one entry more
pub entries_next : (deltas : List ℤ) (one : List ℕ) (k byte : ℕ) → k + 1 < length one → byte ≡ byte_of (entry_of deltas (k + 1)) →
    ((state : ℕ) → state < k + 1 → get_or one state 0 ≡ byte_of (entry_of deltas state)) →
    (state : ℕ) → state < k + 1 + 1 → get_or (slice_set one (k + 1) byte) state 0 ≡ byte_of (entry_of deltas state)
entries_next deltas one k byte inside now before state below = elim (cases_eq state (k + 1)) [
  | inl same ↦ rw same (get_or-set_same one (k + 1) byte 0 inside ∙ now)
  | inr apart ↦ get_or-set_other one (k + 1) state byte 0 apart ∙ before state (omega arith)
]

pub sound_next : (deltas : List ℤ) (k : ℕ) → get_or deltas k (pos 0) ≢ negsuc 2147483647 →
    ((j : ℕ) → j < k → get_or deltas j (pos 0) ≢ negsuc 2147483647) → (j : ℕ) → j < k + 1 → get_or deltas j (pos 0) ≢ negsuc 2147483647
sound_next deltas k now before j below = elim (cases_eq j k) [
  | inl same ↦ rw same now
  | inr apart ↦ before j (omega arith)
]
