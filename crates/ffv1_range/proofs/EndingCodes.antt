-- Either ending of a list codes it.
use Rattle.std.proofs.Common.{◌≡◌, refl, ℕ, zero, suc, ◌+◌, ◌-◌, ◌*◌, ◌/◌, ◌%◌, ◌^◌, ◌<◌, ◌≤◌, Bool, true, false, List, [], ◌∷◌, ◌++◌, length, take, get_or, replicate, arith, ap, sym, ◌∙◌, inl, inr}
use Rattle.std.proofs.lemmas.Bool.{cases_lt}
use Rattle.std.proofs.lemmas.List.{get_or_past, get_or_append_left, get_or-replicate, length-replicate}
use Rattle.std.proofs.Math.Seq.{get_or-append_right}
use Rattle.std.proofs.lemmas.Grind.{common_steps}
use Rattle.std.proofs.Math.Nat.{pow-succ'}
use Rattle.ffv1_range.specs.Interval.{Interval, Decision, share, part, renormalised, narrow, narrowed, start, interval_of}
use Rattle.ffv1_range.specs.Codes.{value, digits, raised, rounded_of, sentinel_of, full_of, AreBytes, Inside, IsState, AreStates}
use Rattle.ffv1_range.proofs.Values.{value-append, value-digits, length-digits}
use Rattle.ffv1_range.proofs.EmittedBytes.{bytes-pushed}
use Rattle.ffv1_range.proofs.Endings.{take-digits, rounded-is}
use Rattle.ffv1_range.specs.Internal.Registers.{interval_from}
use Rattle.ffv1_range.proofs.Nested.{narrow-inside}

-- what holds of each interval of a list
pub record IsFit (i : Interval) : Type 0 where
  pub least : 256 ≤ i.width
  pub room : i.low + i.width ≤ 256 ^ i.count
  pub some : 0 < i.count

-- the same before a renormalisation
pub record IsPart (i : Interval) : Type 0 where
  pub least : 0 < i.width
  pub room : i.low + i.width ≤ 256 ^ i.count
  pub some : 0 < i.count

pub renormalised-fit : (i : Interval) → IsPart i → IsFit (renormalised i)
renormalised-fit i is = record {
  least = grind (arith, common_steps);
  room = grind (arith, common_steps, pow-succ' 256 i.count);
  some = grind (arith, common_steps);
}

pub share_positive : (width state : ℕ) → 256 ≤ width → 0 < state → 0 < share width state
share_positive width state h p = grind arith

pub share_below : (width state : ℕ) → 0 < width → state < 256 → share width state < width
share_below width state h p = grind arith

pub part-fit : (i : Interval) (state : ℕ) (bit : Bool) → IsFit i → IsState state → IsPart (part i state bit)
part-fit i state false is s =
    let below = share_below i.width state (omega (arith, is.least)) s.most in
    record { least = omega arith; room = omega arith; some = is.some }
part-fit i state true is s =
    let positive = share_positive i.width state is.least s.least in
    let below = share_below i.width state (omega (arith, is.least)) s.most in
    record { least = positive; room = omega arith; some = is.some }

pub narrowed-fit : (i : Interval) (ds : List Decision) → IsFit i → AreStates ds → IsFit (narrowed i ds)
narrowed-fit i [] is states = is
narrowed-fit i (d ∷ ds) is states =
    narrowed-fit (narrow i d.state d.bit) ds (renormalised-fit _ (part-fit i d.state d.bit is states.0)) states.1

pub start-fit : IsFit start
start-fit = record { least = omega arith; room = omega arith; some = omega arith }

pub fit : (ds : List Decision) → AreStates ds → IsFit (interval_of ds)
fit ds states = narrowed-fit start ds start-fit states

zero_of : (n k : ℕ) → get_or {A = ℕ} (replicate n 0) k 0 ≡ 0
zero_of n k = elim (cases_lt k n) [
  | inl inside ↦ get_or-replicate n k 0 0 inside
  | inr behind ↦ get_or_past (replicate n 0) k 0 (simp length-replicate behind)
]

pub bytes-digits : (k n : ℕ) → AreBytes (digits k n)
bytes-digits zero n = λ j. omega arith
bytes-digits (suc k) n = bytes-pushed (digits k (n / 256)) (n % 256) (bytes-digits k (n / 256)) (omega arith)

-- one byte after the end is 0
pub value-past : (xs : List ℕ) (k : ℕ) → length xs ≡ k → value xs (suc k) ≡ 256 * value xs k
value-past xs k long =
    let none = get_or_past xs k 0 (omega arith) in
    omega arith

zeros_at : (xs : List ℕ) (n k : ℕ) → get_or (xs ++ replicate n 0) k 0 ≡ get_or xs k 0
zeros_at xs n k = elim (cases_lt k (length xs)) [
  | inl inside ↦ get_or_append_left xs (replicate n 0) 0 k inside
  | inr behind ↦ get_or-append_right xs (replicate n 0) k 0 behind ∙ zero_of n (k - length xs) ∙ sym (get_or_past xs k 0 behind)
]

-- zeros after the end change no value
pub value-zeros : (xs : List ℕ) (n k : ℕ) → value (xs ++ replicate n 0) k ≡ value xs k
value-zeros xs n zero = refl
value-zeros xs n (suc k) =
    let rest = value-zeros xs n k in
    let same : get_or (xs ++ replicate n 0) k 0 ≡ get_or xs k 0 = zeros_at xs n k in
    cc

pub rounded-at : (low width count : ℕ) → IsFit (record { low = low; width = width; count = count }) →
    Inside (rounded_of (record { low = low; width = width; count = count })) (record { low = low; width = width; count = count })
rounded-at low width zero is = absurd (omega (arith, is.some))
rounded-at low width (suc k) is =
    let one : suc k - 1 ≡ k = omega arith in
    let quotient : raised low / 256 ≡ (low + 255) / 256 = omega arith in
    let least = is.least in
    let room = rw (pow-succ' 256 k) at is.room in
    let past = value-past (digits k ((low + 255) / 256)) k (length-digits k ((low + 255) / 256)) in
    let all = value-digits k ((low + 255) / 256) (omega arith) in
    rw (one, take-digits, quotient) (record { above = omega arith; below = omega arith })

pub rounded-inside : (i : Interval) → IsFit i → Inside (rounded_of i) i
rounded-inside i is = rounded-at i.low i.width i.count is

pub bytes-take : (k n : ℕ) → AreBytes (take (k - 1) (digits k n))
bytes-take zero n = λ j. omega arith
bytes-take (suc k) n =
    let one : suc k - 1 ≡ k = omega arith in
    rw (one, take-digits) (bytes-digits k (n / 256))

pub sentinel_state : IsState 129
sentinel_state = record { least = omega arith; most = omega arith }

pub sentinel-inside : (i : Interval) → IsFit i → Inside (sentinel_of i) i
sentinel-inside i is =
    let last = narrow i 129 false in
    let good = renormalised-fit (part i 129 false) (part-fit i 129 false is sentinel_state) in
    narrow-inside (sentinel_of i) (bytes-take last.count (raised last.low)) i 129 false (omega arith) (rounded-inside last good)

pub full-inside : (i : Interval) (ys : List ℕ) → IsFit i → Inside (full_of i ++ ys) i
full-inside i ys is =
    let long = length-digits i.count i.low in
    let value_is = value-digits i.count i.low (omega (arith, is.room, is.least)) in
    let front = value-append (digits i.count i.low) ys i.count (omega arith) in
    record { above = omega arith; below = omega (arith, is.least) }

-- zeros after the end change nothing
pub inside-zeros : (xs : List ℕ) (i : Interval) (n : ℕ) → Inside xs i → Inside (xs ++ replicate n 0) i
inside-zeros xs i n is =
    let same = value-zeros xs n i.count in
    record { above = omega (arith, is.above); below = omega (arith, is.below) }

-- the bytes of the sentinel ending, by the number that an encoder has after the last decision
pub sentinel-is : (i : Interval) (xs ys : List ℕ) (low width : ℕ) → interval_from ys low width ≡ narrow i 129 false → AreBytes xs → length xs ≡ length ys + 1 →
    value xs (length xs) ≡ 256 * value ys (length ys) + (low + 255) / 256 → xs ≡ sentinel_of i
sentinel-is i xs ys low width e are long number = rounded-is xs ys low width are long number ∙ ap rounded_of e
