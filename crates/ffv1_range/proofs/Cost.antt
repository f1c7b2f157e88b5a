-- An interval loses little more than its weight.
use Rattle.std.proofs.Common.{◌≡◌, refl, ℕ, ◌+◌, ◌-◌, ◌*◌, ◌^◌, ◌<◌, ◌≤◌, Bool, true, false, List, [], ◌∷◌, ◌++◌, arith, ap, ◌∙◌, zero-add, inl, inr, subst}
use Rattle.std.proofs.lemmas.Bool.{cases_lt, lt-ltb, le-ltb}
use Rattle.std.proofs.lemmas.Bool.Decides.{nat_tests}
use Rattle.std.proofs.lemmas.Nat.{pow-add, mul-le}
use Rattle.std.proofs.Math.Nat.{mul-le-mul_left, pow-succ', pow-zero}
use Rattle.ffv1_range.specs.Interval.{Interval, Decision, share, part, renormalised, narrow, narrowed, interval_of, start}
use Rattle.ffv1_range.specs.Weight.{weight_of, weight, one_if, ones, zeros, AreHeldBy, sealed}
use Rattle.ffv1_range.proofs.EndingCodes.{IsFit, part-fit, renormalised-fit, start-fit, sentinel_state}
use Rattle.ffv1_range.specs.Codes.{IsState, AreStates}
use Rattle.ffv1_range.proofs.Nested.{share_le}
use Rattle.ffv1_range.proofs.Prefix.{different}
use Rattle.std.proofs.Math.Numerals.{one-add}

-- two inequalities of products, one after the other
pub chain : (a D W g V K T : ℕ) → a * W * D ≤ g * V → K * V ≤ T → a * K * D * W ≤ g * T
chain a D W g V K T first second =
    let one = mul-le-mul_left {m = a * W * D} {n = g * V} K first in
    let two = mul-le-mul_left {m = K * V} {n = T} g second in
    omega arith

-- the first part, renormalised, and then the rest
joined : (a D W g V L E G Z : ℕ) → a * W ≤ g * V → L * E * (D * V) ≤ G * Z → a * L * (D * E) * W ≤ g * G * Z
joined a D W g V L E G Z first second =
    let one = mul-le-mul_left {m = a * W} {n = g * V} (L * E * D) first in
    let two = mul-le-mul_left {m = L * E * (D * V)} {n = G * Z} g second in
    omega arith

-- a 1 keeps its share but for one part in floor + 1
pub share_kept : (floor width state : ℕ) → 256 ≤ width → floor ≤ state → floor * state * width ≤ 256 * (floor + 1) * share width state
share_kept floor width state wide held =
    let product = mul-le floor 256 state width held wide in
    let least : floor ≤ share width state = omega arith in
    let most : width * state ≤ 256 * share width state + 255 = omega arith in
    let more = mul-le-mul_left {m = width * state} {n = 256 * share width state + 255} floor most in
    omega arith

-- what a decision costs at most, as a quotient of two numbers
pub loss : ℕ → ℕ → Bool → ℕ
loss floor state true = floor * state
loss floor state false = 256 - state

pub gain : ℕ → Bool → ℕ
gain floor true = 256 * (floor + 1)
gain floor false = 256

pub losses : ℕ → List Decision → ℕ
losses floor [] = 1
losses floor (d ∷ ds) = loss floor d.state d.bit * losses floor ds

pub gains : ℕ → List Decision → ℕ
gains floor [] = 1
gains floor (d ∷ ds) = gain floor d.bit * gains floor ds

-- a 0 keeps its share
zero_kept : (rest state width : ℕ) → rest + state ≡ 256 → rest * width ≤ 256 * (width - share width state)
zero_kept rest state width e =
    let product = ap (λ k. k * width) e in
    omega arith

-- a decision has a state, and a 1 a state from floor on
pub record IsPaid (floor state : ℕ) (bit : Bool) : Type 0 where
  pub state_is : IsState state
  pub one : bit ≡ true → floor ≤ state

abbrev pub ArePaid : ℕ → List Decision → Type 0
ArePaid floor [] = Unit {0}
ArePaid floor (d ∷ ds) = IsPaid floor d.state d.bit × ArePaid floor ds

part_kept : (floor : ℕ) (i : Interval) (state : ℕ) (bit : Bool) → 256 ≤ i.width → IsPaid floor state bit →
    loss floor state bit * i.width ≤ gain floor bit * (part i state bit).width
unfolding loss gain
part_kept floor i state true wide paid = share_kept floor i.width state wide (paid.one refl)
part_kept floor i state false wide paid =
    zero_kept (256 - state) state i.width (omega (arith, paid.state_is.most))

-- a renormalisation multiplies the width and the number of values by 256
pub record Renormalises (old new : Interval) (more : ℕ) : Type 0 where
  pub count : new.count ≡ old.count + more
  pub width : new.width ≡ 256 ^ more * old.width

pub renormalises : (i : Interval) → (more : ℕ) × Renormalises i (renormalised i) more
renormalises i = elim (cases_lt i.width 256) [
  | inl small ↦ (1, rw (lt-ltb i.width 256 small) (record { count = omega arith; width = omega arith }))
  | inr large ↦ (0, rw (le-ltb i.width 256 large) (record { count = omega arith; width = omega arith }))
]

pub part_count : (i : Interval) (state : ℕ) (bit : Bool) → (part i state bit).count ≡ i.count
part_count i state true = refl
part_count i state false = refl

-- what holds of an interval and the one after some decisions
pub record Kept (floor : ℕ) (i : Interval) (ds : List Decision) (more : ℕ) : Type 0 where
  pub count : (narrowed i ds).count ≡ i.count + more
  pub kept : losses floor ds * 256 ^ more * i.width ≤ gains floor ds * (narrowed i ds).width

pub kept : (floor : ℕ) (i : Interval) (ds : List Decision) → IsFit i → ArePaid floor ds → (more : ℕ) × Kept floor i ds more
unfolding losses gains
kept floor i [] fit held = (0, record { count = omega arith; kept = omega arith })
kept floor i (d ∷ ds) fit held =
    let state = held.0.state_is in
    let fit_part = part-fit i d.state d.bit fit state in
    let one = renormalises (part i d.state d.bit) in
    let rest = kept floor (narrow i d.state d.bit) ds (renormalised-fit (part i d.state d.bit) fit_part) held.1 in
    let first = part_kept floor i d.state d.bit fit.least held.0 in (
      one.0 + rest.0,
      record {
        count = omega (arith, rest.1.count, one.1.count, part_count i d.state d.bit);
        kept = rw (pow-add 256 one.0 rest.0)
            (joined (loss floor d.state d.bit) (256 ^ one.0) i.width (gain floor d.bit) (part i d.state d.bit).width (losses floor ds) (256 ^ rest.0)
            (gains floor ds) (narrowed (narrow i d.state d.bit) ds).width first (rw one.1.width at rest.1.kept));
      },
    )

-- no width is above the first
pub part_most : (i : Interval) (state : ℕ) (bit : Bool) → state < 256 → i.width ≤ 65280 → (part i state bit).width ≤ 65280
part_most i state true small most =
    let le = share_le i.width state small in omega arith
part_most i state false small most = omega arith

renormalised_most : (i : Interval) → i.width ≤ 65280 → (renormalised i).width ≤ 65280
renormalised_most i most = grind (arith, nat_tests)

narrowed_most : (i : Interval) (ds : List Decision) → AreStates ds → i.width ≤ 65280 → (narrowed i ds).width ≤ 65280
narrowed_most i [] states most = most
narrowed_most i (d ∷ ds) states most =
    narrowed_most (narrow i d.state d.bit) ds states.1 (renormalised_most (part i d.state d.bit) (part_most i d.state d.bit states.0.most most))

turned : (a b c : ℕ) → a * b * c ≡ a * c * b
turned a b c = omega arith

swap : (a b c : ℕ) → a * (b * c) ≡ b * (a * c)
swap a b c = omega arith

by_bit : (state : ℕ) (bit : Bool) (floor n w l : ℕ) → l ≡ floor ^ n * w → loss floor state bit * l ≡ floor ^ (one_if bit + n) * (weight_of state bit * w)
unfolding loss
by_bit state true floor n w l e = rw (e, one-add, pow-succ' floor n) (omega arith)
by_bit state false floor n w l e = rw (e, zero-add) (swap (256 - state) (floor ^ n) w)

losses_are : (floor : ℕ) (ds : List Decision) → losses floor ds ≡ floor ^ ones ds * weight ds
unfolding losses loss
losses_are floor [] = rw (pow-zero floor) refl
losses_are floor (d ∷ ds) = by_bit d.state d.bit floor (ones ds) (weight ds) (losses floor ds) (losses_are floor ds)

gain_by_bit : (bit : Bool) (floor n z g : ℕ) → g ≡ (256 * (floor + 1)) ^ n * 256 ^ z → gain floor bit * g ≡ (256 * (floor + 1)) ^ (one_if bit + n) * 256 ^ (1 - one_if bit + z)
unfolding gain
gain_by_bit true floor n z g e = rw (e, one-add, pow-succ' (256 * (floor + 1)) n, zero-add) (omega arith)
gain_by_bit false floor n z g e = rw (e, zero-add, one-add, pow-succ' 256 z) (swap 256 ((256 * (floor + 1)) ^ n) (256 ^ z))

gains_are : (floor : ℕ) (ds : List Decision) → gains floor ds ≡ (256 * (floor + 1)) ^ ones ds * 256 ^ zeros ds
unfolding gains
gains_are floor [] = rw (pow-zero (256 * (floor + 1))) refl
gains_are floor (d ∷ ds) = gain_by_bit d.bit floor (ones ds) (zeros ds) (gains floor ds) (gains_are floor ds)

states_of_paid : (floor : ℕ) (ds : List Decision) → ArePaid floor ds → AreStates ds
states_of_paid floor [] paid = tt
states_of_paid floor (d ∷ ds) paid = (paid.0.state_is, states_of_paid floor ds paid.1)

paid_cost : (floor : ℕ) (ds : List Decision) → ArePaid floor ds →
    floor ^ ones ds * 256 ^ ((interval_of ds).count - 2) * weight ds ≤ (256 * (floor + 1)) ^ ones ds * 256 ^ zeros ds
paid_cost floor ds paid =
    let found = kept floor start ds start-fit paid in
    let most = narrowed_most start ds (states_of_paid floor ds paid) (omega arith) in
    let wide = mul-le-mul_left {m = (interval_of ds).width} {n = 65280} (gains floor ds) most in
    let count : (interval_of ds).count - 2 ≡ found.0 = omega (arith, found.1.count) in
    let all : losses floor ds * 256 ^ found.0 ≤ gains floor ds = omega (arith, found.1.kept) in
    rw (count, ← gains_are floor ds) (subst (λ l. l ≤ gains floor ds) (ap (λ l. l * 256 ^ found.0) (losses_are floor ds) ∙ turned (floor ^ ones ds) (weight ds) (256 ^ found.0)) all)

paid_of_held : (floor : ℕ) (ds : List Decision) → 0 < floor → AreHeldBy floor ds → ArePaid floor ds
paid_of_held floor [] positive held = tt
paid_of_held floor (d ∷ ds) positive held =
    let least = held.0.least in
    let most = held.0.most in
    (record { state_is = record { least = omega arith; most = omega arith }; one = λ _. least }, paid_of_held floor ds positive held.1)

paid_sentinel : (floor : ℕ) (ds : List Decision) → ArePaid floor ds → ArePaid floor (ds ++ (record { state = 129; bit = false } ∷ []))
paid_sentinel floor [] paid = (record { state_is = sentinel_state; one = λ e. absurd (different e) }, tt)
paid_sentinel floor (d ∷ ds) paid = (paid.0, paid_sentinel floor ds paid.1)

pub cost : (floor : ℕ) (ds : List Decision) → 0 < floor → AreHeldBy floor ds →
    floor ^ ones ds * 256 ^ ((interval_of ds).count - 2) * weight ds ≤ (256 * (floor + 1)) ^ ones ds * 256 ^ zeros ds
cost floor ds positive held = paid_cost floor ds (paid_of_held floor ds positive held)

-- the same with a last decision 0 by the state 129
pub cost_sentinel : (floor : ℕ) (ds : List Decision) → 0 < floor → AreHeldBy floor ds →
    floor ^ ones (sealed ds) * 256 ^ ((interval_of (sealed ds)).count - 2) * weight (sealed ds) ≤ (256 * (floor + 1)) ^ ones (sealed ds) * 256 ^ zeros (sealed ds)
cost_sentinel floor ds positive held = paid_cost floor (sealed ds) (paid_sentinel floor ds (paid_of_held floor ds positive held))
