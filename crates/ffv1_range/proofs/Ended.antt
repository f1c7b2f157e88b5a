-- Which bytes end a list, and what they begin.
use Rattle.std.proofs.Common.{◌≡◌, refl, ℕ, zero, suc, ◌+◌, ◌-◌, ◌*◌, ◌/◌, ◌<◌, ◌≤◌, ◌^◌, min, Bool, true, false, List, [], ◌∷◌, ◌++◌, length, slice_index, arith, ap, sym, subst, ◌∙◌, inl, inr}
use Rattle.std.proofs.lemmas.Bool.{cases_lt, lt-ltb, le-ltb}
use Rattle.std.proofs.Math.Nat.{pow-succ', min-eq_left, min-eq_right}
use Rattle.ffv1_range.specs.Interval.{Interval, Decision, share, part, narrow, start, interval_of}
use Rattle.ffv1_range.specs.Reading.{Reading, At}
use Rattle.ffv1_range.specs.Codes.{value, raised, rounded_of, sentinel_of, AreBytes, Codes, Inside}
use Rattle.ffv1_range.specs.Ending.{IsEnded, bits_place}
use Rattle.ffv1_range.specs.Renormalising.{IsNormalised}
use Rattle.ffv1_range.proofs.Values.{value-append, value-digits, length-digits}
use Rattle.ffv1_range.proofs.Endings.{take-digits}
use Rattle.ffv1_range.proofs.EndingCodes.{IsFit, part-fit, renormalised-fit, rounded-inside, sentinel_state, value-past}
use Rattle.ffv1_range.proofs.Renormalising.{narrow_normalised}
use Rattle.ffv1_range.proofs.Nested.{narrowed-append}

-- the interval after the last decision, where that renormalises and where it does not
last_renormalised : (i : Interval) → i.width - share i.width 129 < 256 →
    narrow i 129 false ≡ record { low = 256 * i.low; width = 256 * (i.width - share i.width 129); count = suc i.count }
last_renormalised i less = rw (lt-ltb (i.width - share i.width 129) 256 less) refl

last_plain : (i : Interval) → 256 ≤ i.width - share i.width 129 → narrow i 129 false ≡ part i 129 false
last_plain i more = rw (le-ltb (i.width - share i.width 129) 256 more) refl

last_fit : (i : Interval) → IsFit i → IsFit (narrow i 129 false)
last_fit i is = renormalised-fit (part i 129 false) (part-fit i 129 false is sentinel_state)

-- the number of bytes that are one fewer than an interval counts
number_at : (bytes : List ℕ) (count : ℕ) → length bytes + 1 ≡ count → value bytes count ≡ 256 * value bytes (length bytes)
number_at bytes count long =
    let one : count ≡ suc (length bytes) = omega (arith, long) in
    ap (value bytes) one ∙ value-past bytes (length bytes) refl

-- how many bytes a rounded ending has, and their number
ending_at : (low width count : ℕ) → IsFit (record { low = low; width = width; count = count }) →
    (length (rounded_of (record { low = low; width = width; count = count })) + 1 ≡ count)
    × (value (rounded_of (record { low = low; width = width; count = count })) (length (rounded_of (record { low = low; width = width; count = count }))) ≡ (low + 255) / 256)
ending_at low width zero is = absurd (omega (arith, is.some))
ending_at low width (suc k) is =
    let one : suc k - 1 ≡ k = omega arith in
    let quotient : raised low / 256 ≡ (low + 255) / 256 = omega arith in
    let least = is.least in
    let room = rw (pow-succ' 256 k) at is.room in
    let long = length-digits k ((low + 255) / 256) in
    let all = value-digits k ((low + 255) / 256) (omega arith) in
    rw (one, take-digits, quotient, long) (omega arith, all)

ending_is : (i : Interval) → IsFit i → (length (rounded_of i) + 1 ≡ i.count) × (value (rounded_of i) (length (rounded_of i)) ≡ (i.low + 255) / 256)
ending_is i is = ending_at i.low i.width i.count is

pub sentinel_ends : (i : Interval) → IsFit i → IsEnded (sentinel_of i) i
sentinel_ends i is = record { codes = rounded-inside (narrow i 129 false) (last_fit i is); whole = (ending_is (narrow i 129 false) (last_fit i is)).0 }

module _ (bytes : List ℕ) (i : Interval) (is : IsFit i) where
  abbrev last : Interval
  last = narrow i 129 false

  abbrev least : List ℕ
  least = sentinel_of i

  pub where_ended : IsEnded bytes i → (length bytes ≡ length least) × (value least (length least) ≤ value bytes (length bytes)) × (256 * value bytes (length bytes) < last.low + last.width)
  where_ended ended =
      let ending = ending_is last (last_fit i is) in
      let number = number_at bytes last.count ended.whole in
      (omega (arith, ended.whole, ending.0), omega (arith, number, ended.codes.above, ending.1), omega (arith, number, ended.codes.below))

  pub ended_where : (length bytes ≡ length least) × (value least (length least) ≤ value bytes (length bytes)) × (256 * value bytes (length bytes) < last.low + last.width) → IsEnded bytes i
  ended_where at =
      let ending = ending_is last (last_fit i is) in
      let whole : length bytes + 1 ≡ last.count = omega (arith, at.0, ending.0) in
      let number = number_at bytes last.count whole in
      record { codes = record { above = omega (arith, number, at.1, ending.1); below = omega (arith, number, at.2) }; whole = whole }

  pub ended_near : IsNormalised i → IsEnded bytes i → value bytes (length bytes) ≤ value least (length least) + 254
  ended_near normalised ended =
      let most = (narrow_normalised i 129 false sentinel_state normalised).most in
      let ending = ending_is last (last_fit i is) in
      let below = (where_ended ended).2 in
      omega (arith, most, ending.1, below)

module _ (xs ys : List ℕ) (are : AreBytes (xs ++ ys)) (i : Interval) (is : IsFit i) (ended : IsEnded xs i) where
  -- where the last decision renormalises, the interval counts no more bytes than there are
  begins_renormalised : i.width - share i.width 129 < 256 → Inside (xs ++ ys) i
  begins_renormalised less =
      let last = last_renormalised i less in
      let count = ap (λ (j : Interval). j.count) last in
      let front = value-append xs ys i.count (omega (arith, ended.whole, count)) in
      let below = ended.codes.below in
      let above = ended.codes.above in
      let low = ap (λ (j : Interval). j.low) last in
      let width = ap (λ (j : Interval). j.width) last in
      let number : value xs (narrow i 129 false).count ≡ 256 * value xs i.count = number_at xs (narrow i 129 false).count ended.whole ∙ ap (λ n. 256 * value xs n) (omega (arith, ended.whole, count)) in
      record { above = omega (arith, front, above, low, number); below = omega (arith, front, below, low, width, number) }

  -- where it does not, a 1 has a share of more than a byte
  begins_plain : 256 ≤ i.width - share i.width 129 → Inside (xs ++ ys) i
  begins_plain more =
      let last = last_plain i more in
      let count : (narrow i 129 false).count ≡ i.count = ap (λ (j : Interval). j.count) last in
      let one : i.count ≡ suc (length xs) = omega (arith, ended.whole, count) in
      let front = value-append xs ys (length xs) (omega arith) in
      let byte = are (length xs) in
      let number : value (xs ++ ys) i.count ≡ 256 * value (xs ++ ys) (length xs) + slice_index (xs ++ ys) (length xs) = ap (value (xs ++ ys)) one in
      let old = number_at xs (narrow i 129 false).count ended.whole in
      let above = ended.codes.above in
      let below = ended.codes.below in
      let low = ap (λ (j : Interval). j.low) last in
      let width = ap (λ (j : Interval). j.width) last in
      record { above = omega (arith, number, front, old, above, low); below = omega (arith, number, front, byte, old, below, low, width, more) }

  pub begins : Inside (xs ++ ys) i
  begins = elim (cases_lt (i.width - share i.width 129) 256) [
    | inl less ↦ begins_renormalised less
    | inr more ↦ begins_plain more
  ]

  -- behind a last decision that renormalises any byte may follow a 0
  placed_renormalised : i.width - share i.width 129 < 256 → (bit : Bool) × Inside (xs ++ ys) (narrow i 129 bit) × (bits_place (narrow i 129 bit) ≡ length xs)
  placed_renormalised less =
      let last = last_renormalised i less in
      let count : (narrow i 129 false).count ≡ suc i.count = ap (λ (j : Interval). j.count) last in
      let long : length xs ≡ i.count = omega (arith, ended.whole, count) in
      let front = value-append xs ys i.count (omega (arith, long)) in
      let byte = are i.count in
      let below = ended.codes.below in
      let above = ended.codes.above in
      let low = ap (λ (j : Interval). j.low) last in
      let width = ap (λ (j : Interval). j.width) last in
      let old : value xs (narrow i 129 false).count ≡ 256 * value xs i.count = number_at xs (narrow i 129 false).count ended.whole ∙ ap (λ n. 256 * value xs n) long in
      let new : value (xs ++ ys) (narrow i 129 false).count ≡ 256 * value (xs ++ ys) i.count + slice_index (xs ++ ys) i.count = ap (value (xs ++ ys)) count in
      (false, record { above = omega (arith, front, above, low, old, new); below = omega (arith, front, byte, below, low, width, old, new) }, omega (arith, count, long))

  -- behind one that does not the byte that follows may make it a 1
  placed_plain : 256 ≤ i.width - share i.width 129 → (bit : Bool) × Inside (xs ++ ys) (narrow i 129 bit) × (bits_place (narrow i 129 bit) ≡ length xs)
  placed_plain more =
      let last = last_plain i more in
      let count : (narrow i 129 false).count ≡ i.count = ap (λ (j : Interval). j.count) last in
      let one : i.count ≡ suc (length xs) = omega (arith, ended.whole, count) in
      let all = begins_plain more in
      let above = all.above in
      let below = all.below in
      elim (cases_lt (value (xs ++ ys) i.count) (i.low + (i.width - share i.width 129))) [
        | inl less ↦ (false, subst (Inside (xs ++ ys)) (sym last) (record { above = above; below = less }), omega (arith, count, one))
        | inr least ↦
            let wide : 256 ≤ share i.width 129 = omega (arith, more) in
            let whole : narrow i 129 true ≡ part i 129 true = rw (le-ltb (share i.width 129) 256 wide) refl in
            let same : (narrow i 129 true).count ≡ i.count = ap (λ (j : Interval). j.count) whole in
            let some : i.low + (i.width - share i.width 129) + share i.width 129 ≡ i.low + i.width = omega (arith, more) in
            (true, subst (Inside (xs ++ ys)) (sym whole) (record { above = least; below = omega (arith, below, some) }), omega (arith, same, one))
      ]

  pub placed : (bit : Bool) × Inside (xs ++ ys) (narrow i 129 bit) × (bits_place (narrow i 129 bit) ≡ length xs)
  placed = elim (cases_lt (i.width - share i.width 129) 256) [
    | inl less ↦ placed_renormalised less
    | inr more ↦ placed_plain more
  ]

-- the same behind a list of decisions
pub placed_behind : (xs ys : List ℕ) (ds : List Decision) → AreBytes (xs ++ ys) → IsFit (interval_of ds) → IsEnded xs (interval_of ds) →
    (bit : Bool) × Codes (xs ++ ys) (ds ++ (record { state = 129; bit = bit } ∷ []))
    × (bits_place (interval_of (ds ++ (record { state = 129; bit = bit } ∷ []))) ≡ length xs)
placed_behind xs ys ds are is ended =
    let found = placed xs ys are (interval_of ds) is ended in
    let joined : narrow (interval_of ds) 129 found.0 ≡ interval_of (ds ++ (record { state = 129; bit = found.0 } ∷ [])) = sym (narrowed-append start ds (record { state = 129; bit = found.0 } ∷ [])) in
    (found.0, subst (Inside (xs ++ ys)) joined found.1, ap bits_place (sym joined) ∙ found.2)

-- a decoder knows the place by its renormalisations
pub place_known : (r : Reading) (i : Interval) → At r i → r.renormalisations < 2 ^ 64 - 1 → bits_place i ≡ r.renormalisations + 1
place_known r i at few =
    let counted = at.renormalisations in
    elim (cases_lt i.count (2 ^ 64 + 1)) [
      | inl less ↦
          let whole : min i.count (2 ^ 64 + 1) ≡ i.count = min-eq_left (omega (arith, less)) in
          omega (arith, counted, whole)
      | inr more ↦
          let whole : min i.count (2 ^ 64 + 1) ≡ 2 ^ 64 + 1 = min-eq_right more in
          absurd (omega (arith, counted, whole, few))
    ]
