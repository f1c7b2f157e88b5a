-- How many decisions a row takes at most.
use Rattle.std.proofs.Common.{◌≡◌, refl, ℕ, zero, suc, ◌+◌, ◌-◌, ◌*◌, ◌^◌, ◌<◌, ◌≤◌, List, [], ◌∷◌, ◌++◌, length, arith, sym, subst, ◌∙◌, length-append, ℤ, pos, negsuc, unsigned_abs, ◌-ℤ◌, ◌≤ℤ◌, ◌<ℤ◌, inl, inr}
use Rattle.std.proofs.lemmas.Bool.{cases_lt}
use Rattle.std.proofs.lemmas.Nat.{pow_pos}
use Rattle.std.proofs.lemmas.Int.{ints}
use Rattle.std.proofs.Math.Pow.{pow_mono}
use Rattle.std.proofs.Math.Nat.{pow-succ'}
use Rattle.ffv1_range.specs.Symbols.{exponent, too_long, raising}
use Rattle.ffv1_range.proofs.Counting.{length-shifted}
use Rattle.ffv1_range.proofs.Exponents.{exponent_place}
use Rattle.ffv1_plane.specs.Prediction.{predicted_in}
use Rattle.ffv1_plane.specs.Quantisation.{Set}
use Rattle.ffv1_plane.specs.Context.{size_of, flip_of}
use Rattle.ffv1_plane.proofs.Folding.{chosen_folded}
use Rattle.ffv1_line.specs.Cell.{Cell, seen, around}
use Rattle.ffv1_line.specs.Row.{row_steps, refused_steps, chosen_at, chosen_row}
use Rattle.ffv1_line.specs.Decoded.{Lined, LinedToRefusal}
use Rattle.ffv1_line.specs.Encoded.{Written}
use Rattle.ffv1_line.specs.Length.{binary_digits, decisions_of, row_decisions, AreSmall, CountedAtMost}
use Rattle.ffv1_line.proofs.lemmas.laws.Lengths.{row_length, row_most, chosen_row_small}
use Rattle.ffv1_line.proofs.lemmas.laws.ThreeRows.{three, above_three, shows_three, suiting_small, lined_suits, lined_follows, refused_suits, refused_follows}
use Rattle.ffv1_line.specs.Coding.{RowCoding}
use Rattle.ffv1_line.specs.Coder.{Decoder, Encoder}
use Rattle.ffv1_line.specs.Above.{RowsAbove}

-- the digits of a number, by its highest
record Highest (n : ℕ) : Type 0 where
  pub place : ℕ
  pub digits : binary_digits n ≡ suc place
  pub least : 2 ^ place ≤ n
  pub most : n < 2 ^ suc place

highest : (n : ℕ) → 0 < n → Highest n
highest zero some = absurd (omega arith)
highest (suc n) some =
    let place = exponent_place (suc n) some in
    record { place = exponent (suc n); digits = omega arith; least = place.0; most = place.1 }

pub digits_least : (n : ℕ) → 0 < n → 2 ^ (binary_digits n - 1) ≤ n
digits_least n some =
    let h = highest n some in
    let one_less : h.place ≡ binary_digits n - 1 = omega (arith, h.digits) in
    subst (λ k. 2 ^ k ≤ n) one_less h.least

pub digits_below : (n : ℕ) → n < 2 ^ binary_digits n
digits_below zero = pow_pos (binary_digits 0)
digits_below (suc n) = let h = highest (suc n) (omega arith) in subst (λ k. suc n < 2 ^ k) (sym h.digits) h.most

-- a number up to 2 ^ m has m + 1 digits at most
digits_few : (n m : ℕ) → n ≤ 2 ^ m → binary_digits n ≤ suc m
digits_few zero m small = omega arith
digits_few (suc n) m small =
    let h = highest (suc n) (omega arith) in
    elim (cases_lt h.place (suc m)) [
      | inl below ↦ omega (arith, h.digits, below)
      | inr above ↦
          let more : 2 ^ suc m ≤ 2 ^ h.place = pow_mono {i = suc m} {j = h.place} above in
          let twice = pow-succ' 2 m in
          let positive = pow_pos m in
          absurd (omega (arith, h.least, more, twice, positive, small))
    ]

within : (q : ℤ) (half : ℕ) → (pos 0 -ℤ pos half) ≤ℤ q → q <ℤ pos half → unsigned_abs q ≤ half
within (pos n) half least most = omega (arith, ints, most)
within (negsuc n) half least most = omega (arith, ints, least)

chosen_few : (set : Set) (bits m : ℕ) (c : Cell) (y x : ℕ) → bits ≡ suc m → decisions_of (chosen_at set bits c y x) ≤ 2 * bits + 1
unfolding decisions_of
chosen_few set bits m c y x is =
    let folded = chosen_folded bits (predicted_in bits (around c x y)) (flip_of set (around c x y)) (seen c (suc (suc x)) (suc (suc y))) (omega (arith, is)) in
    let less : bits - 1 ≡ m = omega (arith, is) in
    let size : unsigned_abs (chosen_at set bits c y x) ≤ 2 ^ (bits - 1) = within (chosen_at set bits c y x) (2 ^ (bits - 1)) folded.least folded.most in
    let digits = digits_few (unsigned_abs (chosen_at set bits c y x)) m (subst (λ k. unsigned_abs (chosen_at set bits c y x) ≤ 2 ^ k) less size) in
    omega (arith, digits, is)

decisions-append : (qs : List ℤ) (q : ℤ) → row_decisions (qs ++ (q ∷ [])) ≡ row_decisions qs + decisions_of q
decisions-append [] q = omega arith
decisions-append (p ∷ qs) q = let rest = decisions-append qs q in omega (arith, rest)

chosen_row_few : (set : Set) (bits m : ℕ) (c : Cell) (y n : ℕ) → bits ≡ suc m → row_decisions (chosen_row set bits c y n) ≤ (2 * bits + 1) * n
unfolding chosen_row
chosen_row_few set bits m c y zero is = omega arith
chosen_row_few set bits m c y (suc n) is =
    let rest = chosen_row_few set bits m c y n is in
    let last = chosen_few set bits m c y n is in
    let all = decisions-append (chosen_row set bits c y n) (chosen_at set bits c y n) in
    omega (arith, rest, last, all)

length-too_long : length too_long ≡ 32
unfolding raising
length-too_long = refl

module _ (coding : RowCoding) (old new : Decoder) (over : RowsAbove) (cur : List ℕ) (n : ℕ) (few : n ≤ length over.one) where
  pub lined_small : (l : Lined coding old new over cur n) → AreSmall l.residuals
  lined_small l = suiting_small coding.set coding.bits (three over.two over.one cur) 2 0 l.residuals (lined_suits coding old new over cur n few l)

  pub refused_small : (r : LinedToRefusal coding old new over cur n) → AreSmall r.residuals
  refused_small r = suiting_small coding.set coding.bits (three over.two over.one cur) 2 0 r.residuals (refused_suits coding old new over cur n few r)

  pub lined_most : Lined coding old new over cur n → CountedAtMost old.reading.counts new.reading.counts (63 * n)
  lined_most l =
      let follows = lined_follows coding old new over cur n few l in
      let long = row_length coding.set (three over.two over.one cur) 2 0 l.residuals (lined_small l) in
      let most = row_most l.residuals (lined_small l) in
      record { count = length (row_steps coding.set (three over.two over.one cur) 2 0 l.residuals); few = omega (arith, long, most, l.count); goes_on = follows.counts.of_all }

  pub refused_most : LinedToRefusal coding old new over cur n → CountedAtMost old.reading.counts new.reading.counts (63 * n + 32)
  refused_most r =
      let c = three over.two over.one cur in
      let follows = refused_follows coding old new over cur n few r in
      let long = row_length coding.set c 2 0 r.residuals (refused_small r) in
      let most = row_most r.residuals (refused_small r) in
      let last = length-shifted (size_of coding.set (around c n 2) * 32) too_long ∙ length-too_long in
      let all = length-append (row_steps coding.set c 2 0 r.residuals) (refused_steps coding.set (around c n 2)) in
      record {
        count = length (row_steps coding.set c 2 0 r.residuals ++ refused_steps coding.set (around c n 2));
        few = omega (arith, long, most, last, all, r.count);
        goes_on = follows.counts.of_all;
      }

pub written_most : (coding : RowCoding) (old new : Encoder) (over : RowsAbove) (cur : List ℕ) (n m : ℕ) → coding.bits ≡ suc m → m < 31 → n ≤ length over.one →
    Written coding old new over cur n → CountedAtMost old.writing.counts new.writing.counts ((2 * coding.bits + 1) * n)
written_most coding old new over cur n m is few inside w =
    let c = three over.two over.one cur in
    let puts = w.puts c 2 (above_three over.two over.one cur) (shows_three over.two over.one cur n inside) in
    let less : coding.bits - 1 ≡ m = omega (arith, is) in
    let power : 2 ^ m ≤ 2 ^ 30 = pow_mono {i = m} {j = 30} (omega (arith, few)) in
    let half : 2 ^ (coding.bits - 1) < 2 ^ 31 = subst (λ k. 2 ^ k < 2 ^ 31) (sym less) (omega (arith, power)) in
    let long = row_length coding.set c 2 0 (chosen_row coding.set coding.bits c 2 n) (chosen_row_small coding.set coding.bits c 2 n (omega (arith, is)) half) in
    let most = chosen_row_few coding.set coding.bits m c 2 n is in
    record { count = length (row_steps coding.set c 2 0 (chosen_row coding.set coding.bits c 2 n)); few = omega (arith, long, most); goes_on = puts.counts.of_all }
