-- Each interval lies in the one before it, and its two parts are apart.
use Rattle.std.proofs.Common.{◌≡◌, refl, ℕ, ◌+◌, ◌-◌, ◌<◌, ◌≤◌, Bool, true, false, List, [], ◌∷◌, ◌++◌, get_or, arith, inl, inr}
use Rattle.std.proofs.lemmas.Grind.{common_steps}
use Rattle.std.proofs.lemmas.Bool.{cases_lt}
use Rattle.ffv1_range.specs.Interval.{Interval, Decision, share, part, renormalised, narrow, narrowed}
use Rattle.ffv1_range.specs.Codes.{value, Inside, AreBytes, AreStates, ExactlyOne}

-- the part of a decision 1 is no wider than the whole
pub share_le : (width state : ℕ) → state < 256 → share width state ≤ width
share_le width state h = grind arith

pub renormalised-inside : (bytes : List ℕ) → AreBytes bytes → (i : Interval) → Inside bytes (renormalised i) → Inside bytes i
renormalised-inside bytes are i h =
    let byte : get_or bytes i.count 0 < 256 = are i.count in
    record { above = grind (arith, common_steps); below = grind (arith, common_steps) }

pub part-inside : (bytes : List ℕ) → (i : Interval) (state : ℕ) (bit : Bool) → state < 256 → Inside bytes (part i state bit) → Inside bytes i
part-inside bytes i state bit small h =
    let le = share_le i.width state small in
    record { above = grind (arith, common_steps); below = grind (arith, common_steps) }

pub inside-renormalised : (bytes : List ℕ) → AreBytes bytes → (i : Interval) → Inside bytes i → Inside bytes (renormalised i)
inside-renormalised bytes are i h =
    let byte : get_or bytes i.count 0 < 256 = are i.count in
    record { above = grind (arith, common_steps); below = grind (arith, common_steps) }

pub narrow-inside :
    (bytes : List ℕ) → AreBytes bytes → (i : Interval) (state : ℕ) (bit : Bool) → state < 256 → Inside bytes (narrow i state bit) → Inside bytes i
narrow-inside bytes are i state bit small h =
    part-inside bytes i state bit small (renormalised-inside bytes are (part i state bit) h)

-- what lies in the interval of a list lies in that of each beginning
pub narrowed-inside :
    (bytes : List ℕ) → AreBytes bytes → (i : Interval) (ds : List Decision) → AreStates ds → Inside bytes (narrowed i ds) → Inside bytes i
narrowed-inside bytes are i [] states h = h
narrowed-inside bytes are i (d ∷ ds) states h =
    narrow-inside bytes are i d.state d.bit states.0.most (narrowed-inside bytes are (narrow i d.state d.bit) ds states.1 h)

pub narrowed-append : (i : Interval) (xs ys : List Decision) → narrowed i (xs ++ ys) ≡ narrowed (narrowed i xs) ys
narrowed-append i [] ys = refl
narrowed-append i (x ∷ xs) ys = narrowed-append (narrow i x.state x.bit) xs ys

pub lower-inside :
    (bytes : List ℕ) → AreBytes bytes → (i : Interval) (state : ℕ) → Inside bytes i → value bytes i.count < i.low + (i.width - share i.width state) → Inside bytes (narrow i state false)
lower-inside bytes are i state h below =
    inside-renormalised bytes are (part i state false) (record { above = h.above; below = below })

pub upper-inside :
    (bytes : List ℕ) → AreBytes bytes → (i : Interval) (state : ℕ) → state < 256 → Inside bytes i → i.low + (i.width - share i.width state) ≤ value bytes i.count → Inside bytes (narrow i state true)
upper-inside bytes are i state small h above =
    let le = share_le i.width state small in
    inside-renormalised bytes are (part i state true) (record { above = above; below = omega arith })

pub one-inside :
    (bytes : List ℕ) → AreBytes bytes → (i : Interval) (state : ℕ) → state < 256 → Inside bytes i → ExactlyOne (Inside bytes (narrow i state false)) (Inside bytes (narrow i state true))
one-inside bytes are i state small h = record {
  one = elim (cases_lt (value bytes i.count) (i.low + (i.width - share i.width state))) [
    | inl below ↦ inl (lower-inside bytes are i state h below)
    | inr above ↦ inr (upper-inside bytes are i state small h above)
  ];
  apart = λ lower upper.
      let below = (renormalised-inside bytes are (part i state false) lower).below in
      let above = (renormalised-inside bytes are (part i state true) upper).above in
      absurd (omega arith);
}

pub same_first :
    (bytes : List ℕ) → AreBytes bytes → (i : Interval) (state : ℕ) (b c : Bool) → state < 256 → Inside bytes i → Inside bytes (narrow i state b) → Inside bytes (narrow i state c) → b ≡ c
same_first bytes are i state false false small h p q = refl
same_first bytes are i state true true small h p q = refl
same_first bytes are i state false true small h p q = absurd ((one-inside bytes are i state small h).apart p q)
same_first bytes are i state true false small h p q = absurd ((one-inside bytes are i state small h).apart q p)

pub same_bit :
    (bytes : List ℕ) → AreBytes bytes → (i : Interval) (state : ℕ) (b c : Bool) (xs ys : List Decision) → state < 256 → AreStates xs → AreStates ys →
    Inside bytes (narrowed (narrow i state b) xs) → Inside bytes (narrowed (narrow i state c) ys) → b ≡ c
same_bit bytes are i state b c xs ys small in_xs in_ys p q =
    let first = narrowed-inside bytes are (narrow i state b) xs in_xs p in
    let second = narrowed-inside bytes are (narrow i state c) ys in_ys q in
    same_first bytes are i state b c small (narrow-inside bytes are i state b small first) first second
