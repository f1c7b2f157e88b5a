-- Counters that go on.
use Rattle.std.proofs.Common.{◌≡◌, refl, ℕ, zero, suc, ◌+◌, ◌-◌, ◌*◌, ◌/◌, ◌≤◌, Bool, true, false, List, [], ◌∷◌, ◌++◌, length, min, arith, ap, ◌∙◌, length-append}
use Rattle.ffv1_range.specs.Weight.{one_if, ones, zeros}
use Rattle.ffv1_range.specs.Table.{Table}
use Rattle.ffv1_range.specs.declared.tally.Sums.{Sums}
use Rattle.ffv1_range.specs.History.{decisions_after}
use Rattle.ffv1_range.specs.Symbols.{Step, raising, exponent, exponent_steps, mantissa_steps, magnitude_steps, sized_steps, too_long, shifted, decided, stepped}
use Rattle.ffv1_range.specs.Counts.{Counts, saturated, total, uncounted, ones_in, zeros_in, GoesOn, Counted}

pub goes_none : (c : ℕ) → GoesOn c 0 c
goes_none c = λ n h. omega arith

pub goes_append : (a b c k l : ℕ) → GoesOn a k b → GoesOn b l c → GoesOn a (k + l) c
goes_append a b c k l f g = λ n h. let e = g (n + k) (f n h) in omega arith

pub ones_in-append : (xs ys : List Step) → ones_in (xs ++ ys) ≡ ones_in xs + ones_in ys
ones_in-append [] ys = omega arith
ones_in-append (x ∷ xs) ys = let rest = ones_in-append xs ys in omega arith

pub zeros_in-append : (xs ys : List Step) → zeros_in (xs ++ ys) ≡ zeros_in xs + zeros_in ys
zeros_in-append [] ys = omega arith
zeros_in-append (x ∷ xs) ys = let rest = zeros_in-append xs ys in omega arith

one_is : (b : Bool) → one_if b + (1 - one_if b) ≡ 1
one_is true = refl
one_is false = refl

-- each step is a 1 or a 0
pub steps_counted : (ss : List Step) → ones_in ss + zeros_in ss ≡ length ss
steps_counted [] = refl
steps_counted (s ∷ ss) =
    let rest = steps_counted ss in let one = one_is s.bit in omega arith

pub counted_none : (c : Counts) → Counted c [] c
counted_none c = record { of_ones = goes_none c.ones; of_zeros = goes_none c.zeros; of_all = goes_none (total c) }

pub counted_append : (a b c : Counts) (xs ys : List Step) → Counted a xs b → Counted b ys c → Counted a (xs ++ ys) c
counted_append a b c xs ys f g = record {
  of_ones = rw ones_in-append (goes_append a.ones b.ones c.ones (ones_in xs) (ones_in ys) f.of_ones g.of_ones);
  of_zeros = rw zeros_in-append (goes_append a.zeros b.zeros c.zeros (zeros_in xs) (zeros_in ys) f.of_zeros g.of_zeros);
  of_all = rw length-append (goes_append (total a) (total b) (total c) (length xs) (length ys) f.of_all g.of_all);
}

-- both counters go on by numbers that add up to the steps
pub counted_by : (a b : Counts) (ss : List Step) (u z : ℕ) → a.ones ≤ 18446744073709551615 → a.zeros ≤ 18446744073709551615 →
    b.ones ≡ saturated (a.ones + u) → b.zeros ≡ saturated (a.zeros + z) → u ≡ ones_in ss → u + z ≡ length ss → Counted a ss b
counted_by a b ss u z fits_ones fits_zeros of_ones of_zeros ones all =
    let sum = steps_counted ss in
    record { of_ones = λ n h. omega arith; of_zeros = λ n h. omega arith; of_all = λ n h. omega arith }

-- counts that stay as they were, with sums that go on by the steps
pub summed_counts : (a b : Counts) (before after : Sums) (ss : List Step) (u z : ℕ) → b ≡ a →
    after.ones ≡ before.ones + u → after.zeros ≡ before.zeros + z → u ≡ ones_in ss → u + z ≡ length ss →
    Counted (record { ones = saturated (a.ones + before.ones); zeros = saturated (a.zeros + before.zeros) }) ss
    (record { ones = saturated (b.ones + after.ones); zeros = saturated (b.zeros + after.zeros) })
summed_counts a b before after ss u z same of_ones of_zeros ones all =
    let sum = steps_counted ss in
    let one : b.ones ≡ a.ones = ap (λ (c : Counts). c.ones) same in
    let zero : b.zeros ≡ a.zeros = ap (λ (c : Counts). c.zeros) same in
    record { of_ones = λ n h. omega arith; of_zeros = λ n h. omega arith; of_all = λ n h. omega arith }

pub shifted_ones : (base : ℕ) (ss : List Step) → ones_in (shifted base ss) ≡ ones_in ss
shifted_ones base [] = refl
shifted_ones base (s ∷ ss) = ap (λ n. one_if s.bit + n) (shifted_ones base ss)

pub shifted_zeros : (base : ℕ) (ss : List Step) → zeros_in (shifted base ss) ≡ zeros_in ss
shifted_zeros base [] = refl
shifted_zeros base (s ∷ ss) = ap (λ n. (1 - one_if s.bit) + n) (shifted_zeros base ss)

pub length-shifted : (base : ℕ) (ss : List Step) → length (shifted base ss) ≡ length ss
length-shifted base [] = refl
length-shifted base (s ∷ ss) = ap suc (length-shifted base ss)

pub counted_shifted : (a b : Counts) (base : ℕ) (ss : List Step) → Counted a ss b → Counted a (shifted base ss) b
counted_shifted a b base ss f = record {
  of_ones = rw shifted_ones f.of_ones;
  of_zeros = rw shifted_zeros f.of_zeros;
  of_all = rw length-shifted f.of_all;
}

-- the ones and the length of an exponent and of a mantissa
pub raising_ones : (k : ℕ) → ones_in (raising k) ≡ k
unfolding raising
raising_ones zero = refl
raising_ones (suc k) = let rest = raising_ones k in let more = ones_in-append (raising k) (record { slot = 1 + min k 9; bit = true } ∷ []) in omega arith

pub raising_length : (k : ℕ) → length (raising k) ≡ k
unfolding raising
raising_length zero = refl
raising_length (suc k) = let rest = raising_length k in let more = length-append (raising k) (record { slot = 1 + min k 9; bit = true } ∷ []) in omega arith

pub mantissa_length : (count place n : ℕ) → length (mantissa_steps count place n) ≡ count
mantissa_length zero place n = refl
mantissa_length (suc c) place n =
    let rest = mantissa_length c (suc place) (n / 2) in simp length-append (omega arith)

parts_ones : (e n : ℕ) → ones_in (((record { slot = 0; bit = false } ∷ []) ++ exponent_steps e) ++ mantissa_steps e 0 n) ≡ e + ones_in (mantissa_steps e 0 n)
parts_ones e n =
    ap (λ k. one_if false + k) (ones_in-append (exponent_steps e) (mantissa_steps e 0 n)
    ∙ ap (λ k. k + ones_in (mantissa_steps e 0 n)) (ones_in-append (raising e) (record { slot = 1 + min e 9; bit = false } ∷ [])))
    ∙ (let up = raising_ones e in omega arith)

parts_length : (e n : ℕ) → length (((record { slot = 0; bit = false } ∷ []) ++ exponent_steps e) ++ mantissa_steps e 0 n) ≡ 2 * e + 2
parts_length e n =
    ap suc (length-append (exponent_steps e) (mantissa_steps e 0 n)
    ∙ ap (λ k. k + length (mantissa_steps e 0 n)) (length-append (raising e) (record { slot = 1 + min e 9; bit = false } ∷ [])))
    ∙ (let up = raising_length e in let down = mantissa_length e 0 n in omega arith)

pub magnitude_ones : (n e ones : ℕ) → exponent n ≡ e → ones ≡ ones_in (mantissa_steps e 0 n) → ones_in (magnitude_steps n) ≡ e + ones
magnitude_ones n e some is h = rw (is, h) (parts_ones e n)

pub magnitude_length : (n e : ℕ) → exponent n ≡ e → length (magnitude_steps n) ≡ 2 * e + 2
magnitude_length n e is = rw is (parts_length e n)

pub sized_ones : (n : ℕ) (b : Bool) → ones_in (sized_steps n b) ≡ exponent n + ones_in (mantissa_steps (exponent n) 0 n) + one_if b
sized_ones n b =
    let up = raising_ones (exponent n) in
    simp ones_in-append (omega arith)

pub sized_length : (n : ℕ) (b : Bool) → length (sized_steps n b) ≡ 2 * exponent n + 3
sized_length n b =
    let up = raising_length (exponent n) in
    let down = mantissa_length (exponent n) 0 n in
    simp length-append (omega arith)

pub mantissa_ones : (count place n : ℕ) → ones_in (mantissa_steps count place n) ≤ count
mantissa_ones count place n =
    let all = steps_counted (mantissa_steps count place n) in
    let long = mantissa_length count place n in omega arith

pub too_long_ones : ones_in too_long ≡ 31
too_long_ones = let up = raising_ones 31 in omega arith

pub too_long_length : length too_long ≡ 32
too_long_length = let up = raising_length 31 in omega arith

-- the ones and the length of a symbol, by its exponent
pub symbol_ones : (n e ones : ℕ) (b : Bool) → exponent n ≡ e → ones ≡ ones_in (mantissa_steps e 0 n) → ones_in (sized_steps n b) ≡ e + ones + one_if b
symbol_ones n e ones b is h = rw (h, ← is) (sized_ones n b)

pub symbol_length : (n e : ℕ) (b : Bool) → exponent n ≡ e → length (sized_steps n b) ≡ 2 * e + 3
symbol_length n e b is = rw (← is) (sized_length n b)

pub decided_ones : (t : Table) (states : List ℕ) (ss : List Step) → ones (decided t states ss) ≡ ones_in ss
decided_ones t states [] = refl
decided_ones t states (s ∷ ss) = ap (λ n. one_if s.bit + n) (decided_ones t (stepped t states s) ss)

pub decided_zeros : (t : Table) (states : List ℕ) (ss : List Step) → zeros (decided t states ss) ≡ zeros_in ss
decided_zeros t states [] = refl
decided_zeros t states (s ∷ ss) = ap (λ n. (1 - one_if s.bit) + n) (decided_zeros t (stepped t states s) ss)

pub after_ones : (t : Table) (past ss : List Step) → ones (decisions_after t past ss) ≡ ones_in ss
after_ones t past [] = refl
after_ones t past (s ∷ ss) = ap (λ n. one_if s.bit + n) (after_ones t (past ++ (s ∷ [])) ss)

pub after_zeros : (t : Table) (past ss : List Step) → zeros (decisions_after t past ss) ≡ zeros_in ss
after_zeros t past [] = refl
after_zeros t past (s ∷ ss) = ap (λ n. (1 - one_if s.bit) + n) (after_zeros t (past ++ (s ∷ [])) ss)

-- counters that began with nothing
pub from_nothing : (steps : List Step) (c : Counts) → Counted uncounted steps c →
    (c.ones ≡ saturated (ones_in steps)) × (c.zeros ≡ saturated (zeros_in steps)) × (total c ≡ saturated (length steps))
from_nothing steps c all =
    let u = all.of_ones 0 refl in
    let z = all.of_zeros 0 refl in
    let n = all.of_all 0 refl in
    (omega arith, omega arith, omega arith)
