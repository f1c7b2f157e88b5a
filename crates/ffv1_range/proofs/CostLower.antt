-- An interval keeps little more than its weight.
use Rattle.std.proofs.Common.{◌≡◌, refl, ℕ, ◌+◌, ◌-◌, ◌*◌, ◌^◌, ◌<◌, ◌≤◌, Bool, true, false, List, [], ◌∷◌, arith, ap, zero-add}
use Rattle.std.proofs.lemmas.Nat.{pow-add, mul-le}
use Rattle.std.proofs.Math.Nat.{mul-le-mul_left, pow-succ', pow-zero}
use Rattle.std.proofs.Math.Numerals.{one-add}
use Rattle.ffv1_range.specs.Interval.{Interval, Decision, share, part, narrow, narrowed, interval_of, start}
use Rattle.ffv1_range.specs.Weight.{weight_of, weight, one_if, ones, zeros, IsHeld, AreHeldBy}
use Rattle.ffv1_range.specs.Codes.{IsState, AreStates}
use Rattle.ffv1_range.proofs.Nested.{share_le}
use Rattle.ffv1_range.proofs.EndingCodes.{IsFit, part-fit, renormalised-fit, start-fit, fit}
use Rattle.ffv1_range.proofs.Cost.{renormalises, part_count}

-- a 1 keeps at most its share
one_most : (width state : ℕ) → 256 * share width state ≤ state * width
one_most width state = omega arith

-- a 0 keeps its share, and at most one part in floor more
zero_most : (floor width state rest left : ℕ) → rest + state ≡ 256 → left + share width state ≡ width → 256 ≤ width → floor ≤ rest →
    256 * floor * left ≤ (floor + 1) * rest * width
zero_most floor width state rest left e parts wide held =
    let product = ap (λ k. k * width) e in
    let least : width * state ≤ 256 * share width state + 255 = omega arith in
    let more : 256 * left ≤ rest * width + 255 = omega arith in
    let times = mul-le-mul_left {m = 256 * left} {n = rest * width + 255} floor more in
    let small = mul-le floor 255 rest width held (omega arith) in
    omega arith

-- what a decision keeps at most, as a quotient of two numbers
below : ℕ → Bool → ℕ
below floor true = 256
below floor false = 256 * floor

above : ℕ → ℕ → Bool → ℕ
above floor state true = state
above floor state false = (floor + 1) * (256 - state)

belows : ℕ → List Decision → ℕ
belows floor [] = 1
belows floor (d ∷ ds) = below floor d.bit * belows floor ds

aboves : ℕ → List Decision → ℕ
aboves floor [] = 1
aboves floor (d ∷ ds) = above floor d.state d.bit * aboves floor ds

part_most : (floor : ℕ) (i : Interval) (state : ℕ) (bit : Bool) → 256 ≤ i.width → 0 < floor → IsHeld floor state →
    below floor bit * (part i state bit).width ≤ above floor state bit * i.width
unfolding below above
part_most floor i state true wide positive held = one_most i.width state
part_most floor i state false wide positive held =
    let least = held.least in
    let most = held.most in
    let le = share_le i.width state (omega arith) in
    zero_most floor i.width state (256 - state) (i.width - share i.width state) (omega arith) (omega arith) wide (omega arith)

-- one decision, and then the rest
joined : (a W g V L E G D Z : ℕ) → a * V ≤ g * W → L * Z ≤ G * E * (D * V) → a * L * Z ≤ g * G * (D * E) * W
joined a W g V L E G D Z first second =
    let one = mul-le-mul_left {m = a * V} {n = g * W} (G * E * D) first in
    let two = mul-le-mul_left {m = L * Z} {n = G * E * (D * V)} a second in
    omega arith

-- what holds of an interval and the one after some decisions
record Bounded (floor : ℕ) (i : Interval) (ds : List Decision) (more : ℕ) : Type 0 where
  count : (narrowed i ds).count ≡ i.count + more
  most : belows floor ds * (narrowed i ds).width ≤ aboves floor ds * 256 ^ more * i.width

bounded : (floor : ℕ) → 0 < floor → (i : Interval) (ds : List Decision) → IsFit i → AreHeldBy floor ds → (more : ℕ) × Bounded floor i ds more
unfolding belows aboves
bounded floor positive i [] fit held = (0, record { count = omega arith; most = omega arith })
bounded floor positive i (d ∷ ds) fit held =
    let least = held.0.least in
    let most = held.0.most in
    let state : IsState d.state = record { least = omega arith; most = omega arith } in
    let fit_part = part-fit i d.state d.bit fit state in
    let one = renormalises (part i d.state d.bit) in
    let rest = bounded floor positive (narrow i d.state d.bit) ds (renormalised-fit (part i d.state d.bit) fit_part) held.1 in
    let first = part_most floor i d.state d.bit fit.least positive held.0 in (
      one.0 + rest.0,
      record {
        count = omega (arith, rest.1.count, one.1.count, part_count i d.state d.bit);
        most = rw (pow-add 256 one.0 rest.0)
            (joined (below floor d.bit) i.width (above floor d.state d.bit) (part i d.state d.bit).width (belows floor ds) (256 ^ rest.0)
            (aboves floor ds) (256 ^ one.0) (narrowed (narrow i d.state d.bit) ds).width first (rw one.1.width at rest.1.most));
      },
    )

below_by_bit : (bit : Bool) (floor n z b : ℕ) → b ≡ 256 ^ n * (256 * floor) ^ z → below floor bit * b ≡ 256 ^ (one_if bit + n) * (256 * floor) ^ (1 - one_if bit + z)
unfolding below
below_by_bit true floor n z b e = rw (e, one-add, pow-succ' 256 n, zero-add) (omega arith)
below_by_bit false floor n z b e = rw (e, zero-add, one-add, pow-succ' (256 * floor) z) (omega arith)

belows_are : (floor : ℕ) (ds : List Decision) → belows floor ds ≡ 256 ^ ones ds * (256 * floor) ^ zeros ds
unfolding belows
belows_are floor [] = rw (pow-zero (256 * floor)) refl
belows_are floor (d ∷ ds) = below_by_bit d.bit floor (ones ds) (zeros ds) (belows floor ds) (belows_are floor ds)

above_by_bit : (state : ℕ) (bit : Bool) (floor z w a : ℕ) → a ≡ (floor + 1) ^ z * w → above floor state bit * a ≡ (floor + 1) ^ (1 - one_if bit + z) * (weight_of state bit * w)
unfolding above
above_by_bit state true floor z w a e = rw (e, zero-add) (omega arith)
above_by_bit state false floor z w a e = rw (e, one-add, pow-succ' (floor + 1) z) (omega arith)

aboves_are : (floor : ℕ) (ds : List Decision) → aboves floor ds ≡ (floor + 1) ^ zeros ds * weight ds
unfolding aboves
aboves_are floor [] = rw (pow-zero (floor + 1)) refl
aboves_are floor (d ∷ ds) = above_by_bit d.state d.bit floor (zeros ds) (weight ds) (aboves floor ds) (aboves_are floor ds)

states_of_held : (floor : ℕ) (ds : List Decision) → 0 < floor → AreHeldBy floor ds → AreStates ds
states_of_held floor [] positive held = tt
states_of_held floor (d ∷ ds) positive held =
    let least = held.0.least in
    let most = held.0.most in
    (record { least = omega arith; most = omega arith }, states_of_held floor ds positive held.1)

reordered : (a p z w : ℕ) → a ≡ z * w → 255 * (a * p) ≡ 255 * p * z * w
reordered a p z w e = rw e (omega arith)

pub cost_least : (floor : ℕ) (ds : List Decision) → 0 < floor → AreHeldBy floor ds →
    256 ^ ones ds * (256 * floor) ^ zeros ds ≤ 255 * 256 ^ ((interval_of ds).count - 2) * (floor + 1) ^ zeros ds * weight ds
cost_least floor ds positive held =
    let found = bounded floor positive start ds start-fit held in
    let last = fit ds (states_of_held floor ds positive held) in
    let wide = mul-le-mul_left {m = 256} {n = (interval_of ds).width} (belows floor ds) last.least in
    let count : (interval_of ds).count - 2 ≡ found.0 = omega (arith, found.1.count) in
    let all : belows floor ds ≤ 255 * (aboves floor ds * 256 ^ found.0) = omega (arith, found.1.most) in
    rw (count, ← belows_are floor ds, ← reordered (aboves floor ds) (256 ^ found.0) ((floor + 1) ^ zeros ds) (weight ds) (aboves_are floor ds)) all
