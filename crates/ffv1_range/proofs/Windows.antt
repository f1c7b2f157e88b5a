-- The steps of a part of the states are steps of all of them.
use Rattle.std.proofs.Common.{◌≡◌, refl, ℕ, ◌+◌, ◌-◌, ◌<◌, ◌≤◌, Bool, true, false, List, [], ◌∷◌, ◌++◌, length, get_or, slice_set, take, drop, min, arith, ap, sym, ◌∙◌, zero, suc, length-set, length-append, subst, ℤ, pos, negsuc, ◌/◌, length-drop, inl, inr}
use Rattle.std.proofs.lemmas.List.{get_or_append_left, get_or-append-add, set-append_left, set-append_right}
use Rattle.std.proofs.lemmas.List.{length-take-le, take-append-drop, get_or-take, get_or-drop}
use Rattle.std.proofs.lemmas.Bool.{cases_lt}
use Rattle.std.proofs.Math.Seq.{get_or-append_right}
use Rattle.ffv1_range.specs.Reading.{Reading}
use Rattle.ffv1_range.specs.Follows.{Follows}
use Rattle.ffv1_range.specs.Writing.{Writing}
use Rattle.ffv1_range.specs.Puts.{Puts}
use Rattle.ffv1_range.specs.Internal.Registers.{Writes}
use Rattle.ffv1_range.specs.Table.{Table, Holds, moved}
use Rattle.ffv1_range.specs.Symbols.{Step, stepped, decided, moved_by, shifted, raising, exponent_steps, mantissa_steps, magnitude_steps, sized_steps, signed_steps, too_long, exponent, AreHeld, AllHeld}
use Rattle.ffv1_range.specs.History.{AreBelow}
use Rattle.ffv1_range.proofs.Counting.{counted_shifted}

-- a write in the middle part
set-middle : (xs ys zs : List ℕ) (k v : ℕ) → k < length ys → slice_set (xs ++ (ys ++ zs)) (length xs + k) v ≡ xs ++ (slice_set ys k v ++ zs)
set-middle xs ys zs k v h =
    let at : length xs + k - length xs ≡ k = omega arith in
    set-append_right xs (ys ++ zs) (length xs) (length xs + k) v refl (omega arith)
    ∙ ap (λ j. xs ++ slice_set (ys ++ zs) j v) at
    ∙ ap (λ l. xs ++ l) (set-append_left ys zs k v h)

read-middle : (xs ys zs : List ℕ) (k : ℕ) → k < length ys → get_or (xs ++ (ys ++ zs)) (length xs + k) 0 ≡ get_or ys k 0
read-middle xs ys zs k h = get_or-append-add xs (ys ++ zs) k 0 ∙ get_or_append_left ys zs 0 k h

pub window_decided : (t : Table) (xs ys zs : List ℕ) (steps : List Step) → AreBelow steps (length ys) →
    decided t (xs ++ (ys ++ zs)) (shifted (length xs) steps) ≡ decided t ys steps
window_decided t xs ys zs [] below = refl
window_decided t xs ys zs (s ∷ ss) below =
    let read = read-middle xs ys zs s.slot below.0 in
    let write = set-middle xs ys zs s.slot (moved t (get_or ys s.slot 0) s.bit) below.0 in
    let rest = window_decided t xs (stepped t ys s) zs ss (subst (AreBelow ss) (sym (length-set ys s.slot (moved t (get_or ys s.slot 0) s.bit))) below.1) in
    rw (read, write, rest) refl

pub window_moved : (t : Table) (xs ys zs : List ℕ) (steps : List Step) → AreBelow steps (length ys) →
    moved_by t (xs ++ (ys ++ zs)) (shifted (length xs) steps) ≡ xs ++ (moved_by t ys steps ++ zs)
window_moved t xs ys zs [] below = refl
window_moved t xs ys zs (s ∷ ss) below =
    let read = read-middle xs ys zs s.slot below.0 in
    let write = set-middle xs ys zs s.slot (moved t (get_or ys s.slot 0) s.bit) below.0 in
    let rest = window_moved t xs (stepped t ys s) zs ss (subst (AreBelow ss) (sym (length-set ys s.slot (moved t (get_or ys s.slot 0) s.bit))) below.1) in
    ap (λ v. moved_by t (slice_set (xs ++ (ys ++ zs)) (length xs + s.slot) (moved t v s.bit)) (shifted (length xs) ss)) read
    ∙ ap (λ w. moved_by t w (shifted (length xs) ss)) write
    ∙ rest

pub AreBelow-append : (xs ys : List Step) (n : ℕ) → AreBelow xs n → AreBelow ys n → AreBelow (xs ++ ys) n
AreBelow-append [] ys n p q = q
AreBelow-append (x ∷ xs) ys n p q = (p.0, AreBelow-append xs ys n p.1 q)

pub raising_below : (k : ℕ) → AreBelow (raising k) 32
unfolding raising
raising_below zero = tt
raising_below (suc k) = AreBelow-append (raising k) _ 32 (raising_below k) (omega arith, tt)

pub mantissa_below : (count place n : ℕ) → AreBelow (mantissa_steps count place n) 32
mantissa_below zero place n = tt
mantissa_below (suc count) place n =
    AreBelow-append (mantissa_steps count (suc place) (n / 2)) _ 32 (mantissa_below count (suc place) (n / 2)) (omega arith, tt)

pub magnitude_below : (n : ℕ) → AreBelow (magnitude_steps n) 32
magnitude_below n = (
  omega arith,
  AreBelow-append (exponent_steps (exponent n)) (mantissa_steps (exponent n) 0 n) 32
      (AreBelow-append (raising (exponent n)) (record { slot = 1 + min (exponent n) 9; bit = false } ∷ []) 32 (raising_below (exponent n)) (omega arith, tt))
      (mantissa_below (exponent n) 0 n),
)

sized_below : (n : ℕ) (b : Bool) → AreBelow (sized_steps n b) 32
sized_below n b = AreBelow-append (magnitude_steps n) (record { slot = 11 + min (exponent n) 10; bit = b } ∷ []) 32 (magnitude_below n) (omega arith, tt)

pub signed_below : (v : ℤ) → AreBelow (signed_steps v) 32
signed_below (pos zero) = (omega arith, tt)
signed_below (pos (suc n)) = sized_below (suc n) false
signed_below (negsuc n) = sized_below (suc n) true

-- the states by the part at a
split : (states : List ℕ) (a k : ℕ) → states ≡ take a states ++ (take k (drop a states) ++ drop k (drop a states))
split states a k = sym (ap (λ l. take a states ++ l) (take-append-drop k (drop a states)) ∙ take-append-drop a states)

module _ (t : Table) (states : List ℕ) (a k : ℕ) (steps : List Step) (fits : a + k ≤ length states) (below : AreBelow steps k) where
  front_long : length (take a states) ≡ a
  front_long = length-take-le a states (omega arith)

  middle_long : length (take k (drop a states)) ≡ k
  middle_long = length-take-le k (drop a states) (simp length-drop (omega arith))

  pub part_decided : decided t states (shifted a steps) ≡ decided t (take k (drop a states)) steps
  part_decided =
      ap (λ s. decided t s (shifted a steps)) (split states a k)
      ∙ ap (λ n. decided t (take a states ++ (take k (drop a states) ++ drop k (drop a states))) (shifted n steps)) (sym front_long)
      ∙ window_decided t (take a states) (take k (drop a states)) (drop k (drop a states)) steps (subst (AreBelow steps) (sym middle_long) below)

  part_moved : moved_by t states (shifted a steps) ≡ take a states ++ (moved_by t (take k (drop a states)) steps ++ drop k (drop a states))
  part_moved =
      ap (λ s. moved_by t s (shifted a steps)) (split states a k)
      ∙ ap (λ n. moved_by t (take a states ++ (take k (drop a states) ++ drop k (drop a states))) (shifted n steps)) (sym front_long)
      ∙ window_moved t (take a states) (take k (drop a states)) (drop k (drop a states)) steps (subst (AreBelow steps) (sym middle_long) below)

  pub follows_part : (old new : Reading) (after : List ℕ) → Follows t old (take k (drop a states)) new after steps →
      Follows t old states new (take a states ++ (after ++ drop k (drop a states))) (shifted a steps)
  follows_part old new after f = record {
    bytes = f.bytes;
    at = λ i h. rw part_decided (f.at i h);
    counts = counted_shifted old.counts new.counts a steps f.counts;
    moves = ap (λ l. take a states ++ (l ++ drop k (drop a states))) f.moves ∙ sym part_moved;
    named = rw part_decided f.named;
  }

  pub puts_part : (old new : Writing) (after : List ℕ) → Puts t old (take k (drop a states)) new after steps →
      Puts t old states new (take a states ++ (after ++ drop k (drop a states))) (shifted a steps)
  puts_part old new after p = record {
    interval = rw part_decided p.interval;
    counts = counted_shifted old.counts new.counts a steps p.counts;
    failed = p.failed;
    moves = ap (λ l. take a states ++ (l ++ drop k (drop a states))) p.moves ∙ sym part_moved;
    named = rw part_decided p.named;
  }

  pub writes_part : (old new : Writing) (after : List ℕ) → Writes t old (take k (drop a states)) new after steps →
      Writes t old states new (take a states ++ (after ++ drop k (drop a states))) (shifted a steps)
  writes_part old new after w = record {
    interval = rw part_decided w.interval;
    counts = w.counts;
    failed = w.failed;
    moves = ap (λ l. take a states ++ (l ++ drop k (drop a states))) w.moves ∙ sym part_moved;
    named = rw part_decided w.named;
  }

-- states of two lists
all_held-append : (t : Table) (xs ys : List ℕ) → AllHeld t xs → AllHeld t ys → AllHeld t (xs ++ ys)
all_held-append t xs ys p q = record {
  held = λ slot h. elim (cases_lt slot (length xs)) [
    | inl inside ↦ subst (Holds t) (sym (get_or_append_left xs ys 0 slot inside)) (p.held slot inside)
    | inr behind ↦ subst (Holds t) (sym (get_or-append_right xs ys slot 0 behind)) (q.held (slot - length xs) (omega (arith, length-append xs ys)))
  ];
}

all_held-take : (t : Table) (xs : List ℕ) (n : ℕ) → n ≤ length xs → AllHeld t xs → AllHeld t (take n xs)
all_held-take t xs n fits p = record {
  held = λ slot h.
      let long = length-take-le n xs fits in
      let inside : slot < n = omega arith in
      subst (Holds t) (sym (get_or-take n xs slot 0 inside)) (p.held slot (omega arith));
}

all_held-drop : (t : Table) (xs : List ℕ) (n : ℕ) → AllHeld t xs → AllHeld t (drop n xs)
all_held-drop t xs n p = record {
  held = λ slot h.
      let long = length-drop n xs in
      subst (Holds t) (sym (get_or-drop n xs slot 0)) (p.held (n + slot) (omega arith));
}

pub all_held_part : (t : Table) (states after : List ℕ) (a k : ℕ) → a + k ≤ length states → AllHeld t states → AreHeld t after →
    AllHeld t (take a states ++ (after ++ drop k (drop a states)))
all_held_part t states after a k fits all are =
    all_held-append t (take a states) (after ++ drop k (drop a states)) (all_held-take t states a (omega arith) all)
    (all_held-append t after (drop k (drop a states)) (record { held = λ slot h. are.held slot (omega (arith, are.count)) })
    (all_held-drop t (drop a states) k (all_held-drop t states a all)))

pub too_long_below : AreBelow too_long 32
too_long_below = (omega arith, raising_below 31)

pub shifted_below : (base count : ℕ) (steps : List Step) → AreBelow steps count → AreBelow (shifted base steps) (base + count)
shifted_below base count [] below = tt
shifted_below base count (s ∷ ss) below = (omega (arith, below.0), shifted_below base count ss below.1)
