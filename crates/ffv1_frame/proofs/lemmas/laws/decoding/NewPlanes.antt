-- Planes of which a line is handed over: all that are coded together, or none.
use Rattle.std.proofs.Common.{◌≡◌, refl, ℕ, suc, ◌+◌, ◌-◌, ◌<◌, ◌≤◌, ◌⊎◌, inl, inr, zero, Bool, true, false, if◌then◌else◌, nat_lt, List, [], ◌∷◌, ◌++◌, ap, sym, subst, ◌∙◌, arith}
use Rattle.std.specs.List.{flat_map, range_with_len}
use Rattle.std.proofs.lemmas.Bool.{cases_lt, lt-ltb, le-ltb}
use Rattle.ffv1_record.specs.Configuration.{Configuration}
use Rattle.ffv1_slice.specs.Grid.{division_of, down, shared_of}
use Rattle.ffv1_frame.specs.Order.{is_shared, new_planes, numbered}
use Rattle.ffv1_frame.proofs.lemmas.laws.decoding.Machines.{Each}

chosen : (b : Bool) (planes : List ℕ) → ((if b then [] else planes) ≡ planes) ⊎ ((if b then [] else planes) ≡ [])
chosen true planes = inr refl
chosen false planes = inl refl

pub new_or_none : (c : Configuration) (r : ℕ) (planes : List ℕ) (y : ℕ) → (new_planes c r planes y ≡ planes) ⊎ (new_planes c r planes y ≡ [])
new_or_none c r planes y = chosen (is_shared c r planes y) planes

-- what holds of all planes holds of them
pub each_new : (Q : ℕ × ℕ → Type 0) (c : Configuration) (r : ℕ) (planes : List ℕ) (y : ℕ) → Each Q (numbered 0 planes) → Each Q (numbered 0 (new_planes c r planes y))
each_new Q c r planes y all = elim (new_or_none c r planes y) [
  | inl same ↦ subst (λ ps. Each Q (numbered 0 ps)) (sym same) all
  | inr none ↦ subst (λ ps. Each Q (numbered 0 ps)) (sym none) tt
]

pub plane_new : (P : ℕ → Type 0) (c : Configuration) (r : ℕ) (planes : List ℕ) (y : ℕ) → Each P planes → Each P (new_planes c r planes y)
plane_new P c r planes y all = elim (new_or_none c r planes y) [
  | inl same ↦ subst (Each P) (sym same) all
  | inr none ↦ subst (Each P) (sym none) tt
]

-- if the row above has no line of them, they are all
pub all_new : (c : Configuration) (r : ℕ) (planes : List ℕ) (y : ℕ) → ((p : ℕ) → shared_of (down (division_of c) p) r ≤ y) → new_planes c r planes y ≡ planes
all_new c r [] y none = refl
all_new c r (p ∷ ps) y none = ap (λ b. if b then [] else p ∷ ps) (le-ltb y (shared_of (down (division_of c) p) r) (none p))

-- the lines from the first that is not shared on
pub lines_after : (top shared from count : ℕ) → flat_map (λ y. if nat_lt y shared then [] else (top + y) ∷ []) (range_with_len from count)
    ≡ flat_map (λ y. (top + y) ∷ []) (range_with_len (from + (shared - from)) (from + count - (from + (shared - from))))
lines_after top shared from zero = ap (λ n. flat_map (λ y. (top + y) ∷ []) (range_with_len (from + (shared - from)) n)) (let none : 0 ≡ from + 0 - (from + (shared - from)) = omega arith in none)
lines_after top shared from (suc count) = elim (cases_lt from shared) [
  | inl old ↦
      let rest = lines_after top shared (from + 1) count in
      let place : from + 1 + (shared - (from + 1)) ≡ from + (shared - from) = omega (arith, old) in
      let end : from + 1 + count - (from + 1 + (shared - (from + 1))) ≡ from + suc count - (from + (shared - from)) = omega (arith, old) in
      ap (λ b. (if b then [] else (top + from) ∷ []) ++ flat_map (λ y. if nat_lt y shared then [] else (top + y) ∷ []) (range_with_len (from + 1) count)) (lt-ltb from shared old)
      ∙ rest ∙ ap (λ n. flat_map (λ y. (top + y) ∷ []) (range_with_len n (from + 1 + count - (from + 1 + (shared - (from + 1)))))) place
      ∙ ap (λ n. flat_map (λ y. (top + y) ∷ []) (range_with_len (from + (shared - from)) n)) end
  | inr new ↦
      let rest = lines_after top shared (from + 1) count in
      let here : from ≡ from + (shared - from) = omega (arith, new) in
      let there : from + 1 + (shared - (from + 1)) ≡ from + 1 = omega (arith, new) in
      let long : from + 1 + count - (from + 1 + (shared - (from + 1))) ≡ count = omega (arith, new) in
      let all : suc count ≡ from + suc count - (from + (shared - from)) = omega (arith, new) in
      ap (λ b. (if b then [] else (top + from) ∷ []) ++ flat_map (λ y. if nat_lt y shared then [] else (top + y) ∷ []) (range_with_len (from + 1) count)) (le-ltb from shared new)
      ∙ ap (λ z. (top + from) ∷ z) (rest ∙ ap (λ n. flat_map (λ y. (top + y) ∷ []) (range_with_len n (from + 1 + count - (from + 1 + (shared - (from + 1)))))) there
      ∙ ap (λ n. flat_map (λ y. (top + y) ∷ []) (range_with_len (from + 1) n)) long)
      ∙ ap (λ n. flat_map (λ y. (top + y) ∷ []) (range_with_len n (suc count))) here
      ∙ ap (λ n. flat_map (λ y. (top + y) ∷ []) (range_with_len (from + (shared - from)) n)) all
]

-- of planes that are coded together
pub line_new : (c : Configuration) (r first count y : ℕ) → 0 < count → shared_of (down (division_of c) first) r ≤ y → new_planes c r (range_with_len first count) y ≡ range_with_len first count
line_new c r first zero y some new = absurd (omega (arith, some))
line_new c r first (suc count) y some new = ap (λ b. if b then [] else range_with_len first (suc count)) (le-ltb y (shared_of (down (division_of c) first) r) new)

pub line_old : (c : Configuration) (r first count y : ℕ) → 0 < count → y < shared_of (down (division_of c) first) r → new_planes c r (range_with_len first count) y ≡ []
line_old c r first zero y some old = absurd (omega (arith, some))
line_old c r first (suc count) y some old = ap (λ b. if b then [] else range_with_len first (suc count)) (lt-ltb y (shared_of (down (division_of c) first) r) old)

pub new_one : (c : Configuration) (r p y : ℕ) → shared_of (down (division_of c) p) r ≤ y → new_planes c r (p ∷ []) y ≡ p ∷ []
new_one c r p y new = ap (λ b. if b then [] else p ∷ []) (le-ltb y (shared_of (down (division_of c) p) r) new)
