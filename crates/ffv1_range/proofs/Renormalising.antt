-- An interval is renormalised after few decisions.
use Rattle.std.proofs.Common.{◌≡◌, refl, ℕ, suc, ◌+◌, ◌-◌, ◌*◌, ◌^◌, ◌<◌, ◌≤◌, Bool, true, false, List, [], ◌∷◌, length, arith, ap, inl, inr, subst, sym, ◌∙◌}
use Rattle.std.proofs.lemmas.Bool.{cases_lt, lt-ltb, le-ltb}
use Rattle.std.proofs.Math.Nat.{mul-le-mul_left, pow-succ', pow-zero}
use Rattle.ffv1_range.specs.Interval.{Interval, Decision, share, part, renormalised, narrow, narrowed, interval_of, start}
use Rattle.ffv1_range.specs.Codes.{IsState, AreStates}
use Rattle.ffv1_range.specs.Weight.{IsHeld, AreHeldBy}
use Rattle.ffv1_range.specs.Renormalising.{IsNormalised, parts_of, left_of, AreEnough, decisions_a_byte}
use Rattle.ffv1_range.proofs.Nested.{share_le}
use Rattle.ffv1_range.proofs.EndingCodes.{share_positive, share_below}
use Rattle.ffv1_range.proofs.Cost.{share_kept, part_count, part_most}
use Rattle.ffv1_range.proofs.Growth.{narrowed-count}
use Rattle.ffv1_range.proofs.Enough.{parts_are, enough_on, are_enough}

-- a 1 leaves its share
one_leaves : (floor width state left : ℕ) → left + floor * floor ≡ parts_of floor → state + floor ≤ 256 → parts_of floor * share width state ≤ left * width
one_leaves floor width state left parts most =
    let part : 256 * share width state ≤ width * state = omega arith in
    let times = mul-le-mul_left {m = 256 * share width state} {n = width * state} (floor + 1) part in
    let held = mul-le-mul_left {m = state + floor} {n = 256} (floor + 1) most in
    let wide = mul-le-mul_left {m = (floor + 1) * (state + floor)} {n = (floor + 1) * 256} width held in
    let whole = ap (λ k. k * width) parts in
    omega arith

-- a 0 leaves what is beside it
zero_leaves : (floor width state left rest : ℕ) → left + floor * floor ≡ parts_of floor → 256 ≤ width → floor ≤ state → rest + share width state ≡ width →
    parts_of floor * rest ≤ left * width
zero_leaves floor width state left rest parts wide least beside =
    let kept = share_kept floor width state wide least in
    let square = mul-le-mul_left {m = floor} {n = state} (floor * width) least in
    let whole = ap (λ k. k * width) parts in
    let times = ap (λ k. parts_of floor * k) beside in
    omega arith

state_of_held : (floor state : ℕ) → 0 < floor → IsHeld floor state → IsState state
state_of_held floor state positive held = record { least = omega (arith, held.least); most = omega (arith, held.most) }

middle : (floor state : ℕ) → IsHeld floor state → floor ≤ 128
middle floor state held = omega (arith, held.least, held.most)

pub decision_leaves : (floor : ℕ) (i : Interval) (state : ℕ) (bit : Bool) → 0 < floor → IsHeld floor state → 256 ≤ i.width →
    parts_of floor * (part i state bit).width ≤ left_of floor * i.width
decision_leaves floor i state true positive held wide =
    one_leaves floor i.width state (left_of floor) (parts_are floor (middle floor state held)) held.most
decision_leaves floor i state false positive held wide =
    let small = state_of_held floor state positive held in
    let le = share_le i.width state small.most in
    zero_leaves floor i.width state (left_of floor) (i.width - share i.width state) (parts_are floor (middle floor state held)) wide held.least (omega arith)

-- in lowest terms, for the standard's table
pub standard_leaves : (i : Interval) (state : ℕ) (bit : Bool) → IsHeld 8 state → 256 ≤ i.width → 36 * (part i state bit).width ≤ 35 * i.width
standard_leaves i state bit held wide = terms (part i state bit).width i.width (decision_leaves 8 i state bit (omega arith) held wide)
  where
    terms : (v w : ℕ) → 2304 * v ≤ 2240 * w → 36 * v ≤ 35 * w
    terms v w le = omega arith

-- a part is some of its interval
part_some : (i : Interval) (state : ℕ) (bit : Bool) → IsState state → 256 ≤ i.width → 0 < (part i state bit).width
part_some i state true is wide = share_positive i.width state wide is.least
part_some i state false is wide = let below = share_below i.width state (omega arith) is.most in omega arith

renormalised_normalised : (i : Interval) → 0 < i.width → i.width ≤ 65280 → IsNormalised (renormalised i)
renormalised_normalised i some most = elim (cases_lt i.width 256) [
  | inl small ↦ rw (lt-ltb i.width 256 small) (record { least = omega arith; most = omega arith })
  | inr large ↦ rw (le-ltb i.width 256 large) (record { least = large; most = most })
]

pub narrow_normalised : (i : Interval) (state : ℕ) (bit : Bool) → IsState state → IsNormalised i → IsNormalised (narrow i state bit)
narrow_normalised i state bit is normal =
    renormalised_normalised (part i state bit) (part_some i state bit is normal.least) (part_most i state bit is.most normal.most)

pub start_normalised : IsNormalised start
start_normalised = record { least = omega arith; most = omega arith }

narrowed_normalised : (i : Interval) (ds : List Decision) → AreStates ds → IsNormalised i → IsNormalised (narrowed i ds)
narrowed_normalised i [] states normal = normal
narrowed_normalised i (d ∷ ds) states normal =
    narrowed_normalised (narrow i d.state d.bit) ds states.1 (narrow_normalised i d.state d.bit states.0 normal)

pub all_normalised : (ds : List Decision) → AreStates ds → IsNormalised (interval_of ds)
all_normalised ds states = narrowed_normalised start ds states start_normalised

renormalised_small : (i : Interval) → i.width < 256 → (renormalised i).count ≡ i.count + 1
renormalised_small i small = rw (lt-ltb i.width 256 small) (omega arith)

renormalised_large : (i : Interval) → 256 ≤ i.width → renormalised i ≡ i
renormalised_large i large = rw (le-ltb i.width 256 large) refl

-- what decisions without a renormalisation leave, and one more
step_leaves : (p l x y u v w z : ℕ) → u ≡ p * x → z ≡ l * y → x * w ≤ y * 65280 → p * v ≤ l * w → u * v ≤ z * 65280
step_leaves p l x y u v w z up down before leaves =
    let one = mul-le-mul_left {m = p * v} {n = l * w} x leaves in
    let two = mul-le-mul_left {m = x * w} {n = y * 65280} l before in
    rw (up, down) (omega arith)

too_many : (p l w : ℕ) → p * w ≤ l * 65280 → 256 ≤ w → 255 * l < p → ⊥
too_many p l w kept wide enough =
    let times = mul-le-mul_left {m = 256} {n = w} p wide in
    omega arith

-- one byte more is renormalised, and then the rest
after_byte : (n k more long : ℕ) → 0 < more → k < n → long + 0 < n * (more - 1 + 1) → suc long + k < n * (more + 1)
after_byte n k more long some before rest =
    let less : more - 1 + 1 ≡ more = omega arith in
    let all = subst (λ m. long + 0 < n * m) less rest in
    omega arith

at_once : (n k more : ℕ) → more ≡ 0 → k < n → 0 + k < n * (more + 1)
at_once n k more none before = rw none (omega arith)

longer : (n k more long : ℕ) → long + suc k < n * (more + 1) → suc long + k < n * (more + 1)
longer n k more long rest = omega arith

one_fewer : (c i p j more : ℕ) → c ≡ i + more → p ≡ i → j ≡ p + 1 → j ≤ c → (0 < more) × (c ≡ j + (more - 1))
one_fewer c i p j more all same up within = (omega arith, omega arith)

without : (n long more : ℕ) → long + 0 < n * (more + 1) → long < n * (more + 1)
without n long more less = omega arith

apart : (c i : ℕ) → i ≤ c → c ≡ i + (c - i)
apart c i le = omega arith

module _ (floor : ℕ) (positive : 0 < floor) (most : floor ≤ 128) (n : ℕ) (enough : AreEnough floor n) where
  -- so many decisions left an interval that was not renormalised since
  fewer : (k w : ℕ) → parts_of floor ^ k * w ≤ left_of floor ^ k * 65280 → 256 ≤ w → k < n
  fewer k w kept wide = elim (cases_lt k n) [
    | inl less ↦ less
    | inr more ↦ absurd (too_many (parts_of floor ^ k) (left_of floor ^ k) w kept wide (enough_on floor n k most more enough))
  ]

  at_first : (w : ℕ) → w ≤ 65280 → parts_of floor ^ 0 * w ≤ left_of floor ^ 0 * 65280
  at_first w le = rw (pow-zero (parts_of floor), pow-zero (left_of floor)) (omega arith)

  -- k decisions came before since the last renormalisation
  few_after : (i : Interval) (ds : List Decision) (k more : ℕ) → IsNormalised i → AreHeldBy floor ds →
      parts_of floor ^ k * i.width ≤ left_of floor ^ k * 65280 → (narrowed i ds).count ≡ i.count + more → length ds + k < n * (more + 1)
  few_after i [] k more normal held kept count = at_once n k more (omega (arith, count)) (fewer k i.width kept normal.least)
  few_after i (d ∷ ds) k more normal held kept count =
      let next = narrow_normalised i d.state d.bit (state_of_held floor d.state positive held.0) normal in
      let leaves = decision_leaves floor i d.state d.bit positive held.0 normal.least in
      let now = step_leaves (parts_of floor) (left_of floor) (parts_of floor ^ k) (left_of floor ^ k) (parts_of floor ^ suc k) (part i d.state d.bit).width i.width (left_of floor ^ suc k)
      (pow-succ' (parts_of floor) k) (pow-succ' (left_of floor) k) kept leaves in
      elim (cases_lt (part i d.state d.bit).width 256) [
        | inl small ↦
            let grown = renormalised_small (part i d.state d.bit) small in
            let bytes = one_fewer (narrowed i (d ∷ ds)).count i.count (part i d.state d.bit).count (narrow i d.state d.bit).count more
            count (part_count i d.state d.bit) grown (narrowed-count (narrow i d.state d.bit) ds) in
            after_byte n k more (length ds) bytes.0 (fewer k i.width kept normal.least)
            (few_after (narrow i d.state d.bit) ds 0 (more - 1) next held.1 (at_first (narrow i d.state d.bit).width next.most) bytes.1)
        | inr large ↦
            let stays = renormalised_large (part i d.state d.bit) large in
            longer n k more (length ds) (few_after (narrow i d.state d.bit) ds (suc k) more next held.1
            (subst (λ (j : Interval). parts_of floor ^ suc k * j.width ≤ left_of floor ^ suc k * 65280) (sym stays) now)
            (count ∙ ap (λ c. c + more) (sym (ap (λ (j : Interval). j.count) stays ∙ part_count i d.state d.bit))))
      ]

  few_by : (i : Interval) (ds : List Decision) → IsNormalised i → AreHeldBy floor ds → length ds < n * ((narrowed i ds).count - i.count + 1)
  few_by i ds normal held =
      let grows = narrowed-count i ds in
      without n (length ds) ((narrowed i ds).count - i.count) (few_after i ds 0 ((narrowed i ds).count - i.count) normal held (at_first i.width normal.most) (apart (narrowed i ds).count i.count grows))

-- decisions are fewer than so many for each renormalisation, and so many more
pub few : (floor : ℕ) (i : Interval) (ds : List Decision) → 0 < floor → floor ≤ 128 → IsNormalised i → AreHeldBy floor ds →
    length ds < decisions_a_byte floor * ((narrowed i ds).count - i.count + 1)
few floor i ds positive most normal held = few_by floor positive most (decisions_a_byte floor) (are_enough floor positive most) i ds normal held

-- so many in a row renormalise at least once
pub once : (floor : ℕ) (i : Interval) (ds : List Decision) → 0 < floor → floor ≤ 128 → IsNormalised i → AreHeldBy floor ds →
    decisions_a_byte floor ≤ length ds → i.count < (narrowed i ds).count
once floor i ds positive most normal held many = some (decisions_a_byte floor) (length ds) (narrowed i ds).count i.count many (few floor i ds positive most normal held)
  where
    some : (n long c i : ℕ) → n ≤ long → long < n * (c - i + 1) → i < c
    some n long c i many less = elim (cases_lt i c) [
      | inl more ↦ more
      | inr none ↦
          let same : c - i ≡ 0 = omega arith in
          let all = subst (λ m. long < n * (m + 1)) same less in
          absurd (omega arith)
    ]
