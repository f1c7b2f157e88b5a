-- Any byte may follow a sentinel ending.
use Rattle.std.proofs.Common.{◌≡◌, refl, ℕ, zero, suc, ◌+◌, ◌-◌, ◌*◌, ◌/◌, ◌^◌, ◌<◌, ◌≤◌, false, [], ◌∷◌, ◌++◌, arith, sym, ◌∙◌, inl, inr, ap, subst}
use Rattle.std.proofs.lemmas.Bool.{cases_lt, lt-ltb, le-ltb}
use Rattle.std.proofs.Math.Nat.{pow-succ'}
use Rattle.ffv1_range.specs.Interval.{Interval, share, part, narrow}
use Rattle.ffv1_range.specs.Codes.{value, digits, raised, rounded_of, sentinel_of, Inside}
use Rattle.ffv1_range.proofs.Values.{value-push, value-digits, length-digits}
use Rattle.ffv1_range.proofs.Endings.{take-digits}
use Rattle.ffv1_range.proofs.EndingCodes.{IsFit, renormalised-fit, part-fit, sentinel_state, bytes-take}
use Rattle.ffv1_range.proofs.EmittedBytes.{bytes-pushed}
use Rattle.ffv1_range.proofs.Nested.{narrow-inside}

-- the value of a rounded ending and one byte more
pub rounded_value : (low width count byte : ℕ) → 0 < count → 256 ≤ width → low + width ≤ 256 ^ count →
    value (rounded_of (record { low = low; width = width; count = count }) ++ (byte ∷ [])) count ≡ raised low + byte
rounded_value low width zero byte positive wide room = absurd (omega arith)
rounded_value low width (suc k) byte positive wide room =
    let one : suc k - 1 ≡ k = omega arith in
    let quotient : raised low / 256 ≡ (low + 255) / 256 = omega arith in
    let space = rw (pow-succ' 256 k) at room in
    let all = value-digits k ((low + 255) / 256) (omega arith) in
    let push = value-push (digits k ((low + 255) / 256)) byte k (sym (length-digits k ((low + 255) / 256))) in
    let same : rounded_of (record { low = low; width = width; count = suc k }) ≡ digits k ((low + 255) / 256) = rw (one, take-digits, quotient) refl in
    ap (λ l. value (l ++ (byte ∷ [])) (suc k)) same ∙ omega arith

-- the last decision has no renormalisation
plain_case : (i : Interval) (byte : ℕ) → IsFit i → byte < 256 → 256 ≤ i.width - share i.width 129 → Inside (sentinel_of i ++ (byte ∷ [])) i
plain_case i byte is small more =
    let plain : narrow i 129 false ≡ part i 129 false = rw (le-ltb (i.width - share i.width 129) 256 more) refl in
    let number = ap (λ j. value (rounded_of j ++ (byte ∷ [])) i.count) plain
    ∙ rounded_value i.low (i.width - share i.width 129) i.count byte is.some more (omega (arith, is.room)) in
    record { above = omega arith; below = omega arith }

-- the last decision has one
renormalised_case : (i : Interval) (byte : ℕ) → IsFit i → byte < 256 → i.width - share i.width 129 < 256 → Inside (sentinel_of i ++ (byte ∷ [])) i
renormalised_case i byte is small less =
    let fit_part = part-fit i 129 false is sentinel_state in
    let fit_last = renormalised-fit (part i 129 false) fit_part in
    let last : narrow i 129 false ≡ record { low = 256 * i.low; width = 256 * (i.width - share i.width 129); count = suc i.count } =
    rw (lt-ltb (i.width - share i.width 129) 256 less) refl in
    let fits = subst IsFit last fit_last in
    let number = ap (λ j. value (rounded_of j ++ (byte ∷ [])) (suc i.count)) last
    ∙ rounded_value (256 * i.low) (256 * (i.width - share i.width 129)) (suc i.count) byte fits.some fits.least fits.room in
    let least = fit_part.least in
    let inside : Inside (sentinel_of i ++ (byte ∷ [])) (record { low = 256 * i.low; width = 256 * (i.width - share i.width 129); count = suc i.count }) =
    record { above = omega arith; below = omega arith } in
    let bytes = bytes-pushed (sentinel_of i) byte (bytes-take (narrow i 129 false).count (raised (narrow i 129 false).low)) small in
    narrow-inside (sentinel_of i ++ (byte ∷ [])) bytes i 129 false (omega arith)
    (subst (Inside (sentinel_of i ++ (byte ∷ []))) (sym last) inside)

pub sentinel_byte : (i : Interval) (byte : ℕ) → IsFit i → byte < 256 → Inside (sentinel_of i ++ (byte ∷ [])) i
sentinel_byte i byte is small = elim (cases_lt (i.width - share i.width 129) 256) [
  | inl less ↦ renormalised_case i byte is small less
  | inr more ↦ plain_case i byte is small more
]
