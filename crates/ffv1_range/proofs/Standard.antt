-- The standard table keeps its states from 8 to 248.
use Rattle.std.proofs.Common.{◌≡◌, ◌∙◌, ap, refl, subst, length, slice_set, get_or-set_same, get_or-set_other, ℕ, zero, suc, ◌+◌, ◌-◌, ◌*◌, ◌<◌, ◌≤◌, Bool, true, false, List, get_or, arith, inl, inr, nat_lt, nat_le, ◌&&◌, ◌||◌, ◌==◌}
use Rattle.std.proofs.lemmas.Bool.{cases_lt, cases_eq}
use Rattle.std.proofs.lemmas.Bool.Decides.{nat_tests}
use Rattle.ffv1_range.specs.Standard.{default_state_transition}
use Rattle.ffv1_range.specs.Table.{IsTable, moved}
use Rattle.ffv1_range.specs.Internal.Registers.{AreZeros, AreNext}

-- whether a state that is held stays so
abbrev stays : ℕ → List ℕ → ℕ → Bool
stays floor one state =
    (nat_lt state floor || nat_lt 256 (state + floor)) || (nat_le floor (get_or one state 0) && nat_le (get_or one state 0 + floor) 256)

-- whether each number below n passes
unfoldable pub all_below : (ℕ → Bool) → ℕ → Bool
all_below test zero = true
all_below test (suc n) = test n && all_below test n

and_left : (a b : Bool) → (a && b) ≡ true → a ≡ true
and_left true b h = refl
and_left false b h = h

and_right : (a b : Bool) → (a && b) ≡ true → b ≡ true
and_right true b h = h
and_right false b h = cc

pub all_below-at : (test : ℕ → Bool) (n k : ℕ) → all_below test n ≡ true → k < n → test k ≡ true
unfolding all_below
all_below-at test zero k h below = absurd (omega arith)
all_below-at test (suc n) k h below = elim (cases_lt k n) [
  | inl less ↦ all_below-at test n k (and_right (test n) (all_below test n) h) less
  | inr more ↦ let same : k ≡ n = omega arith in rw same (and_left (test n) (all_below test n) h)
]

stays_least : (floor : ℕ) (one : List ℕ) (state : ℕ) → stays floor one state ≡ true → floor ≤ state → state + floor ≤ 256 → floor ≤ get_or one state 0
stays_least floor one state h least most = grind (arith, nat_tests)

stays_most : (floor : ℕ) (one : List ℕ) (state : ℕ) → stays floor one state ≡ true → floor ≤ state → state + floor ≤ 256 → get_or one state 0 + floor ≤ 256
stays_most floor one state h least most = grind (arith, nat_tests)

standard_stays : all_below (stays 8 default_state_transition) 257 ≡ true
unfolding all_below
standard_stays = refl

pub standard : IsTable 8 default_state_transition
standard = record {
  positive = omega arith;
  middle = omega arith;
  least = λ state l m. stays_least 8 default_state_transition state (all_below-at (stays 8 default_state_transition) 257 state standard_stays (omega arith)) l m;
  most = λ state l m. stays_most 8 default_state_transition state (all_below-at (stays 8 default_state_transition) 257 state standard_stays (omega arith)) l m;
}

-- a 0 moves a state as a 1 moves 256 less the state
pub zeros_are : (floor : ℕ) (one other : List ℕ) → IsTable floor one →
    ((state : ℕ) → 0 < state → state < 256 → 0 < get_or one (256 - state) 0 → get_or other state 0 ≡ 256 - get_or one (256 - state) 0) →
    AreZeros floor one other
zeros_are floor one other table each = λ state least most.
    let positive = table.positive in
    let middle = table.middle in
    let above = table.least (256 - state) (omega arith) (omega arith) in
    each state (omega arith) (omega arith) (omega arith)

-- one entry more of the moves by a 0
pub zeros_next : (one other : List ℕ) (at entry : ℕ) → at < length other → (0 < get_or one (256 - at) 0 → entry ≡ 256 - get_or one (256 - at) 0) →
    ((k : ℕ) → 0 < k → k < at → 0 < get_or one (256 - k) 0 → get_or other k 0 ≡ 256 - get_or one (256 - k) 0) →
    (k : ℕ) → 0 < k → k < at + 1 → 0 < get_or one (256 - k) 0 → get_or (slice_set other at entry) k 0 ≡ 256 - get_or one (256 - k) 0
zeros_next one other at entry inside now before k positive below some = elim (cases_eq k at) [
  | inl same ↦ rw same (get_or-set_same other at entry 0 inside ∙ now (subst (λ j. 0 < get_or one (256 - j) 0) same some))
  | inr apart ↦ get_or-set_other other at k entry 0 apart ∙ before k positive (omega arith) some
]

-- one entry more of the moves by either
pub pairs_next : (one other pairs : List ℕ) (at entry : ℕ) → at < length pairs → entry ≡ get_or one at 0 + 256 * get_or other at 0 →
    ((k : ℕ) → k < at → get_or pairs k 0 ≡ get_or one k 0 + 256 * get_or other k 0) →
    (k : ℕ) → k < at + 1 → get_or (slice_set pairs at entry) k 0 ≡ get_or one k 0 + 256 * get_or other k 0
pairs_next one other pairs at entry inside now before k below = elim (cases_eq k at) [
  | inl same ↦ rw same (get_or-set_same pairs at entry 0 inside ∙ now)
  | inr apart ↦ get_or-set_other pairs at k entry 0 apart ∙ before k (omega arith)
]

-- where a state goes is found after 0 or 256 places, by the decision
pub next_moved : (floor : ℕ) (one zeros next : List ℕ) (state bit : ℕ) → AreZeros floor one zeros → AreNext floor one zeros next →
    floor ≤ state → state + floor ≤ 256 → bit < 2 →
    get_or next (bit * 256 + state) 0 ≡ moved (record { floor = floor; one = one }) state (bit == 1)
next_moved floor one zeros next state zero is are least most small =
    let at : 0 * 256 + state ≡ state = omega arith in
    ap (λ (k : ℕ). get_or next k 0) at ∙ are.zeros state least most ∙ is state least most
next_moved floor one zeros next state (suc zero) is are least most small =
    let at : 1 * 256 + state ≡ 256 + state = omega arith in
    ap (λ (k : ℕ). get_or next k 0) at ∙ are.ones state least most
next_moved floor one zeros next state (suc (suc bit)) is are least most small = absurd (omega arith)
