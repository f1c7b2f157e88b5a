-- An interval never has fewer bytes after more decisions.
use Rattle.std.proofs.Common.{◌≡◌, refl, ℕ, zero, suc, ◌+◌, ◌-◌, ◌/◌, ◌%◌, ◌^◌, ◌<◌, ◌≤◌, ◌==◌, Bool, true, false, List, [], ◌∷◌, ◌++◌, min, arith, ap, ◌∙◌, inl, inr, append_assoc, IsTrue, Result, Ok, Err, OnErr, length, take, drop, subst}
use Rattle.std.proofs.lemmas.Bool.{cases_lt, lt-ltb, le-ltb}
use Rattle.std.proofs.lemmas.List.{append-nil}
use Rattle.std.proofs.lemmas.Nat.{shr-shr}
use Rattle.std.proofs.Math.Nat.{pow-zero}
use Rattle.ffv1_range.specs.Interval.{Interval, Decision, part, renormalised, narrow, narrowed}
use Rattle.ffv1_range.specs.Table.{Table}
use Rattle.ffv1_range.specs.Symbols.{Step, raising, exponent_steps, mantissa_steps, exponent, magnitude_steps, moved_by, decided, shifted}
use Rattle.ffv1_range.specs.History.{AreBelow}
use Rattle.ffv1_range.specs.Writing.{Writing}
use Rattle.ffv1_range.specs.Puts.{Puts, Grows, MayBeRefused}
use Rattle.ffv1_range.specs.Internal.Registers.{Writes, standing}
use Rattle.ffv1_range.proofs.Nested.{narrowed-append}
use Rattle.ffv1_range.proofs.Steps.{decided-append, raising-add-one, writes_append}
use Rattle.ffv1_range.proofs.Windows.{part_decided}
use Rattle.ffv1_range.proofs.Mantissa.{longer, mantissa_next}

renormalised-count : (i : Interval) → i.count ≤ (renormalised i).count
renormalised-count i = elim (cases_lt i.width 256) [
  | inl less ↦ rw (lt-ltb i.width 256 less) (omega arith)
  | inr more ↦ rw (le-ltb i.width 256 more) (omega arith)
]

narrow-count : (i : Interval) (state : ℕ) (bit : Bool) → i.count ≤ (narrow i state bit).count
narrow-count i state false = renormalised-count (part i state false)
narrow-count i state true = renormalised-count (part i state true)

pub narrowed-count : (i : Interval) (ds : List Decision) → i.count ≤ (narrowed i ds).count
narrowed-count i [] = omega arith
narrowed-count i (d ∷ ds) =
    let first = narrow-count i d.state d.bit in
    let rest = narrowed-count (narrow i d.state d.bit) ds in
    omega arith

pub grows_first : (t : Table) (i : Interval) (states : List ℕ) (xs ys : List Step) → Grows t i states xs → Grows t i states (xs ++ ys)
grows_first t i states xs ys grows =
    let all : narrowed i (decided t states (xs ++ ys)) ≡ narrowed (narrowed i (decided t states xs)) (decided t (moved_by t states xs) ys) =
    ap (narrowed i) (decided-append t states xs ys) ∙ narrowed-append i (decided t states xs) (decided t (moved_by t states xs) ys) in
    let rest = narrowed-count (narrowed i (decided t states xs)) (decided t (moved_by t states xs) ys) in
    let here = grows.more in
    record { more = rw all (omega arith) }

grows_on : (t : Table) (i j : Interval) (states after : List ℕ) (xs ys : List Step) → j ≡ narrowed i (decided t states xs) → after ≡ moved_by t states xs →
    Grows t j after ys → Grows t i states (xs ++ ys)
grows_on t i j states after xs ys is moves grows =
    let all : narrowed i (decided t states (xs ++ ys)) ≡ narrowed (narrowed i (decided t states xs)) (decided t (moved_by t states xs) ys) =
    ap (narrowed i) (decided-append t states xs ys) ∙ narrowed-append i (decided t states xs) (decided t (moved_by t states xs) ys) in
    let before = narrowed-count i (decided t states xs) in
    let now : Grows t (narrowed i (decided t states xs)) (moved_by t states xs) ys = rw (← is, ← moves) grows in
    let here = now.more in
    record { more = rw all (omega arith) }

pub grows_second : (t : Table) (a b : Writing) (states after : List ℕ) (xs ys : List Step) →
    Writes t a states b after xs → Grows t b.interval after ys → Grows t a.interval states (xs ++ ys)
grows_second t a b states after xs ys writes grows = grows_on t a.interval b.interval states after xs ys writes.interval writes.moves grows

pub refused_first : (t : Table) (w : Writing) (states : List ℕ) (xs ys : List Step) → MayBeRefused t w states xs → MayBeRefused t w states (xs ++ ys)
refused_first t w states xs ys (inl failed) = inl failed
refused_first t w states xs ys (inr grows) = inr (grows_first t w.interval states xs ys grows)

pub refused_second : (t : Table) (a b : Writing) (states after : List ℕ) (xs ys : List Step) →
    Puts t a states b after xs → MayBeRefused t b after ys → MayBeRefused t a states (xs ++ ys)
refused_second t a b states after xs ys puts (inl failed) = inl (subst IsTrue puts.failed failed)
refused_second t a b states after xs ys puts (inr grows) = inr (grows_on t a.interval b.interval states after xs ys puts.interval puts.moves grows)

-- an exponent goes on after some of its ones
raising_on : (k more : ℕ) → (rest : List Step) × (raising (k + more) ≡ raising k ++ rest)
unfolding raising
raising_on k zero = ([], let same : k + 0 ≡ k = omega arith in rw (same, append-nil (raising k)) refl)
raising_on k (suc more) =
    let before = raising_on k more in
    let up : k + suc more ≡ suc (k + more) = omega arith in (
      before.0 ++ (record { slot = 1 + min (k + more) 9; bit = true } ∷ []),
      rw (up, before.1) (append_assoc (raising k) before.0 (record { slot = 1 + min (k + more) 9; bit = true } ∷ [])),
    )

pub exponent_on : (k e : ℕ) → k ≤ e → (rest : List Step) × (exponent_steps e ≡ raising k ++ rest)
exponent_on k e within =
    let before = raising_on k (e - k) in
    let all : k + (e - k) ≡ e = omega arith in
    let last : List Step = record { slot = 1 + min e 9; bit = false } ∷ [] in
    (before.0 ++ last, ap (λ l. l ++ last) (rw all at before.1) ∙ append_assoc (raising k) before.0 last)

-- a mantissa goes on after some of its bits
pub mantissa_on : (count low place n : ℕ) → (rest : List Step) × (mantissa_steps (count + low) place n ≡ mantissa_steps count (place + low) (n / 2 ^ low) ++ rest)
mantissa_on count zero place n =
    let same : count + 0 ≡ count = omega arith in
    let here : place + 0 ≡ place = omega arith in
    let whole : n / 2 ^ 0 ≡ n = rw (pow-zero 2) (omega arith) in
    ([], rw (same, here, whole, append-nil (mantissa_steps count place n)) refl)
mantissa_on count (suc low) place n =
    let before = mantissa_on count low (suc place) (n / 2) in
    let up : count + suc low ≡ suc (count + low) = omega arith in
    let here : suc place + low ≡ place + suc low = omega arith in
    let down : n / 2 / 2 ^ low ≡ n / 2 ^ suc low = shr-shr n 1 low ∙ ap (λ j. n / 2 ^ j) (omega arith) in
    let last : List Step = record { slot = 22 + min place 9; bit = (n % 2) == 1 } ∷ [] in
    let rest = rw (here, down) at before.1 in
    (before.0 ++ last, rw up (ap (λ l. l ++ last) rest ∙ append_assoc (mantissa_steps count (place + suc low) (n / 2 ^ suc low)) before.0 last))

-- a fact of each error
pub on_err : {T F P : Type 0} (r : Result T F) → P → OnErr r P
on_err (Ok v) p = tt
on_err (Err f) p = p

-- a 1 of an exponent that is refused
pub exponent_grows : (t : Table) (a b : Writing) (states after : List ℕ) (k e : ℕ) → k < e → Writes t a states b after (raising k) →
    Grows t b.interval after (record { slot = 1 + min k 9; bit = true } ∷ []) → Grows t a.interval states (exponent_steps e)
exponent_grows t a b states after k e less writes grows =
    let on = exponent_on (k + 1) e (omega arith) in
    rw (on.1, raising-add-one) (grows_first t a.interval states (raising k ++ (record { slot = 1 + min k 9; bit = true } ∷ [])) on.0
    (grows_second t a b states after (raising k) (record { slot = 1 + min k 9; bit = true } ∷ []) writes grows))

-- a bit of a mantissa that is refused, at the place below this one
pub mantissa_grows : (t : Table) (a b : Writing) (states after : List ℕ) (e place n : ℕ) → 0 < place → place ≤ e →
    Writes t a states b after (mantissa_steps (e - place) place (n / 2 ^ place)) →
    Grows t b.interval after (record { slot = 22 + min (place - 1) 9; bit = (n / 2 ^ (place - 1) % 2) == 1 } ∷ []) →
    Grows t a.interval states (mantissa_steps e 0 n)
mantissa_grows t a b states after e place n positive below writes grows =
    let on = mantissa_on (e - (place - 1)) (place - 1) 0 n in
    let all : e - (place - 1) + (place - 1) ≡ e = omega arith in
    let here : 0 + (place - 1) ≡ place - 1 = omega arith in
    let split : mantissa_steps e 0 n ≡ mantissa_steps (e - (place - 1)) (place - 1) (n / 2 ^ (place - 1)) ++ on.0 = rw (all, here) at on.1 in
    let more = longer e place positive below in
    let before : List Step = mantissa_steps (e - place) place (n / 2 ^ place) in
    let last : List Step = record { slot = 22 + min (place - 1) 9; bit = (n / 2 ^ (place - 1) % 2) == 1 } ∷ [] in
    let bits : mantissa_steps (e - (place - 1)) (place - 1) (n / 2 ^ (place - 1)) ≡ before ++ last = rw more (mantissa_next (e - place) place n positive) in
    rw (split, bits) (grows_first t a.interval states (before ++ last) on.0 (grows_second t a b states after before last writes grows))

-- a part of a number's symbol that is refused
pub slot_grows : (t : Table) (i : Interval) (states : List ℕ) (n : ℕ) → Grows t i states (record { slot = 0; bit = false } ∷ []) → Grows t i states (magnitude_steps n)
slot_grows t i states n grows =
    grows_first t i states ((record { slot = 0; bit = false } ∷ []) ++ exponent_steps (exponent n)) (mantissa_steps (exponent n) 0 n)
    (grows_first t i states (record { slot = 0; bit = false } ∷ []) (exponent_steps (exponent n)) grows)

pub ones_grow : (t : Table) (a b : Writing) (states after : List ℕ) (n : ℕ) → Writes t a states b after (record { slot = 0; bit = false } ∷ []) →
    Grows t b.interval after (exponent_steps (exponent n)) → Grows t a.interval states (magnitude_steps n)
ones_grow t a b states after n writes grows =
    grows_first t a.interval states ((record { slot = 0; bit = false } ∷ []) ++ exponent_steps (exponent n)) (mantissa_steps (exponent n) 0 n)
    (grows_second t a b states after (record { slot = 0; bit = false } ∷ []) (exponent_steps (exponent n)) writes grows)

pub bits_grow : (t : Table) (a b c : Writing) (ss ts us : List ℕ) (n : ℕ) → Writes t a ss b ts (record { slot = 0; bit = false } ∷ []) →
    Writes t b ts c us (exponent_steps (exponent n)) → Grows t c.interval us (mantissa_steps (exponent n) 0 n) → Grows t a.interval ss (magnitude_steps n)
bits_grow t a b c ss ts us n first second grows =
    grows_second t a c ss us ((record { slot = 0; bit = false } ∷ []) ++ exponent_steps (exponent n)) (mantissa_steps (exponent n) 0 n)
    (writes_append t a b c ss ts us (record { slot = 0; bit = false } ∷ []) (exponent_steps (exponent n)) first second) grows

-- registers of the same intervals before and after
pub writes_by : (t : Table) (i j k l : Interval) (states after : List ℕ) (steps : List Step) → j ≡ i → l ≡ k →
    Writes t (standing j) states (standing k) after steps → Writes t (standing i) states (standing l) after steps
writes_by t i j k l states after steps begun ended writes = record {
  interval = ended ∙ writes.interval ∙ ap (λ i. narrowed i (decided t states steps)) begun;
  counts = refl;
  failed = refl;
  moves = writes.moves;
  named = writes.named;
}

pub grows_by : (t : Table) (i j k : Interval) (states after : List ℕ) (steps : List Step) → j ≡ i → i.count < k.count →
    Writes t (standing j) states (standing k) after steps → Grows t i states steps
grows_by t i j k states after steps begun more writes =
    let is = ap (λ i. i.count) (writes.interval ∙ ap (λ i. narrowed i (decided t states steps)) begun) in
    record { more = omega (arith, is, more) }

-- what grows by a part of the states grows by all of them
pub grows_part : (t : Table) (i : Interval) (states : List ℕ) (a k : ℕ) (steps : List Step) → a + k ≤ length states → AreBelow steps k →
    Grows t i (take k (drop a states)) steps → Grows t i states (shifted a steps)
grows_part t i states a k steps fits below grows = record { more = rw (part_decided t states a k steps fits below) grows.more }

-- what is refused in a part of the states is refused in all of them
pub refused_part : (t : Table) (old : Writing) (states : List ℕ) (a k : ℕ) (steps : List Step) → a + k ≤ length states → AreBelow steps k →
    MayBeRefused t old (take k (drop a states)) steps → MayBeRefused t old states (shifted a steps)
refused_part t old states a k steps fits below (inl failed) = inl failed
refused_part t old states a k steps fits below (inr grows) = inr (grows_part t old.interval states a k steps fits below grows)
