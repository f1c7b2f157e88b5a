-- Folded differences.
use Rattle.std.proofs.Common.{◌≡◌, ◌≢◌, inl, inr, refl, ◌∙◌, sym, ℕ, zero, suc, ◌+◌, ◌-◌, ◌^◌, ◌<◌, ◌≤◌, ◌≤ℤ◌, ◌<ℤ◌, Bool, true, false, arith, pow_mono, ℤ, pos, ◌+ℤ◌, ◌-ℤ◌, unsigned_abs}
use Rattle.std.proofs.lemmas.Int.{ints}
use Rattle.std.proofs.Math.Nat.{pow-succ'}
use Rattle.std.proofs.lemmas.Nat.{pow_pos}
use Rattle.std.proofs.lemmas.Bool.{cases_lt}
use Rattle.std.specs.Int.{int_rem_euclid}
use Rattle.ffv1_plane.specs.Residual.{turned, folded, sample_of, chosen_of, IsSuiting, IsFolded}
use Rattle.ffv1_plane.proofs.Remainders.{IsCongruent, divided, rem_is}

-- 2^bits is two halves
halved : (bits : ℕ) → 0 < bits → 2 ^ bits ≡ 2 ^ (bits - 1) + 2 ^ (bits - 1)
halved zero some = absurd (omega arith)
halved (suc b) some =
    let e : suc b - 1 ≡ b = omega arith in
    rw (e, pow-succ') (omega arith)

congruent_turned : (n : ℕ) (flip : Bool) (x y : ℤ) → IsCongruent n x y → IsCongruent n (turned flip x) (turned flip y)
congruent_turned n false x y is = is
congruent_turned n true x y is = let same = is.same in record { down = is.up; up = is.down; same = omega (arith, ints) }

pub congruent_sym : (n : ℕ) (x y : ℤ) → IsCongruent n x y → IsCongruent n y x
congruent_sym n x y is = record { down = is.up; up = is.down; same = sym is.same }

pub congruent_trans : (n : ℕ) (x y z : ℤ) → IsCongruent n x y → IsCongruent n y z → IsCongruent n x z
congruent_trans n x y z p q =
    let one = p.same in
    let two = q.same in
    record { down = p.down + q.down; up = p.up + q.up; same = omega (arith, ints) }

turned_twice : (flip : Bool) (x : ℤ) → turned flip (turned flip x) ≡ x
turned_twice false x = refl
turned_twice true x = omega (arith, ints)

-- a difference and what it is folded to, where n is two halves
pub record Near (n half : ℕ) (d f : ℤ) : Type 0 where
  pub near : IsCongruent n d f
  pub least : (pos 0 -ℤ pos half) ≤ℤ f
  pub most : f <ℤ pos half

folding : (n half : ℕ) (d : ℤ) → n ≡ half + half → 0 < half → Near n half d (int_rem_euclid (d +ℤ pos half) (pos n) -ℤ pos half)
folding n half d whole some =
    let at = divided n (d +ℤ pos half) (omega arith) in
    let small = at.small in
    let same = at.near.same in
    rw at.is (record {
      near = record { down = at.near.down; up = at.near.up; same = omega (arith, ints) };
      least = omega (arith, ints);
      most = omega (arith, ints);
    })

pub folded_near : (bits : ℕ) (d : ℤ) → 0 < bits → Near (2 ^ bits) (2 ^ (bits - 1)) d (folded bits d)
folded_near bits d some = folding (2 ^ bits) (2 ^ (bits - 1)) d (halved bits some) (pow_pos (bits - 1))

pub chosen_folded : (bits : ℕ) (p : ℤ) (flip : Bool) (s : ℕ) → 0 < bits → IsFolded bits (chosen_of bits p flip s)
chosen_folded bits p flip s some =
    let at = folded_near bits (turned flip (pos s -ℤ p)) some in
    record { least = at.least; most = at.most }

-- a number of half of 2^bits has a symbol
sized : (half : ℕ) (q : ℤ) → half ≤ 2 ^ 30 → (pos 0 -ℤ pos half) ≤ℤ q → q <ℤ pos half → unsigned_abs q < 2 ^ 31
sized half q small least most = omega (arith, ints)

added_back : (s : ℕ) (p x : ℤ) → x ≡ pos s -ℤ p → p +ℤ x ≡ pos s
added_back s p x e = omega (arith, ints)

congruent_onto : (n : ℕ) (p x y : ℤ) → IsCongruent n x y → IsCongruent n (p +ℤ x) (p +ℤ y)
congruent_onto n p x y is = let same = is.same in record { down = is.down; up = is.up; same = omega (arith, ints) }

pub chosen_suits : (bits : ℕ) (p : ℤ) (flip : Bool) (s : ℕ) → 0 < bits → bits < 32 → s < 2 ^ bits → IsSuiting bits p flip s (chosen_of bits p flip s)
chosen_suits bits p flip s some few small =
    let d = pos s -ℤ p in
    let at = folded_near bits (turned flip d) some in
    let back = congruent_turned (2 ^ bits) flip _ _ (congruent_sym (2 ^ bits) _ _ at.near) in
    let onto = congruent_onto (2 ^ bits) p _ _ back in
    let whole = added_back s p _ (turned_twice flip d) in
    record {
      size = sized (2 ^ (bits - 1)) _ (pow_mono {i = bits - 1} {j = 30} (omega arith)) at.least at.most;
      makes = sym (rem_is (2 ^ bits) (p +ℤ turned flip (chosen_of bits p flip s)) s small (rw whole at onto));
    }

-- two folded numbers that are congruent are equal
same_folded : (n half : ℕ) (x y : ℤ) → n ≡ half + half → 0 < half → IsCongruent n x y → (pos 0 -ℤ pos half) ≤ℤ x → x <ℤ pos half → (pos 0 -ℤ pos half) ≤ℤ y → y <ℤ pos half → x ≡ y
same_folded n half x y whole some is least most least' most' =
    let a = unsigned_abs (x +ℤ pos half) in
    let b = unsigned_abs (y +ℤ pos half) in
    let up : x +ℤ pos half ≡ pos a = omega (arith, ints) in
    let up' : y +ℤ pos half ≡ pos b = omega (arith, ints) in
    let same = is.same in
    let near : IsCongruent n (pos a) (pos b) = record { down = is.down; up = is.up; same = omega (arith, ints) } in
    let one = rem_is n (pos a) b (omega (arith, ints)) near in
    let two = rem_is n (pos a) a (omega (arith, ints)) (record { down = 0; up = 0; same = refl }) in
    let equal : pos a ≡ pos b = sym two ∙ one in
    omega (arith, ints)

pub only_chosen : (bits : ℕ) (p : ℤ) (flip : Bool) (s : ℕ) (q : ℤ) → 0 < bits → IsSuiting bits p flip s q → IsFolded bits q → q ≡ chosen_of bits p flip s
only_chosen bits p flip s q some suits range =
    let n = 2 ^ bits in
    let whole = halved bits some in
    let positive = pow_pos (bits - 1) in
    let at = divided n (p +ℤ turned flip q) (omega arith) in
    let made : pos s ≡ pos at.rest = suits.makes ∙ at.is in
    let back = congruent_onto n (pos 0 -ℤ p) _ _ (rw (← made) at at.near) in
    let less : pos 0 -ℤ p +ℤ (p +ℤ turned flip q) ≡ turned flip q = omega (arith, ints) in
    let less' : pos 0 -ℤ p +ℤ pos s ≡ pos s -ℤ p = omega (arith, ints) in
    let near = rw (less, less') at back in
    let turned_near = rw (turned_twice flip q) at (congruent_turned n flip _ _ near) in
    let chosen = folded_near bits (turned flip (pos s -ℤ p)) some in
    same_folded n (2 ^ (bits - 1)) q (chosen_of bits p flip s) whole positive (congruent_trans n _ _ _ turned_near chosen.near) range.least range.most chosen.least chosen.most

-- a folded number that is congruent to a difference is what it is folded to
pub folded_is : (bits : ℕ) (d f : ℤ) → 0 < bits → IsCongruent (2 ^ bits) d f → (pos 0 -ℤ pos (2 ^ (bits - 1))) ≤ℤ f → f <ℤ pos (2 ^ (bits - 1)) → folded bits d ≡ f
folded_is bits d f some near least most =
    let at = folded_near bits d some in
    same_folded (2 ^ bits) (2 ^ (bits - 1)) (folded bits d) f (halved bits some) (pow_pos (bits - 1)) (congruent_trans (2 ^ bits) _ _ _ (congruent_sym (2 ^ bits) _ _ at.near) near) at.least at.most least most

below_itself : (half : ℕ) → 0 < half → (pos 0 -ℤ pos half) <ℤ pos half
below_itself half some = omega (arith, ints)

at_most_itself : (x : ℤ) → x ≤ℤ x
at_most_itself x = omega (arith, ints)

extreme_near : (n half : ℕ) (flip : Bool) → n ≡ half + half → IsCongruent n (turned flip (pos half)) (pos 0 -ℤ pos half)
extreme_near n half false whole = record { down = 0; up = 1; same = omega (arith, ints) }
extreme_near n half true whole = record { down = 0; up = 0; same = refl }

pub folded_extreme : (bits : ℕ) (flip : Bool) → 0 < bits → folded bits (turned flip (pos (2 ^ (bits - 1)))) ≡ pos 0 -ℤ pos (2 ^ (bits - 1))
folded_extreme bits flip some =
    folded_is bits _ _ some (extreme_near (2 ^ bits) (2 ^ (bits - 1)) flip (halved bits some)) (at_most_itself (pos 0 -ℤ pos (2 ^ (bits - 1)))) (below_itself (2 ^ (bits - 1)) (pow_pos (bits - 1)))

turned_back : (half : ℕ) (x : ℤ) → x ≡ pos 0 -ℤ pos half → turned true x ≡ pos half
turned_back half x e = omega (arith, ints)

pub folded_first : (bits : ℕ) → 0 < bits → turned true (folded bits (pos (2 ^ (bits - 1)))) ≡ pos (2 ^ (bits - 1))
folded_first bits some = turned_back (2 ^ (bits - 1)) _ (folded_extreme bits false some)

turned_least : (half : ℕ) (flip : Bool) (f : ℤ) → (pos 0 -ℤ pos half) ≤ℤ f → f <ℤ pos half → (pos 0 -ℤ pos half) ≤ℤ turned flip f
turned_least half false f least most = least
turned_least half true f least most = omega (arith, ints)

turned_most : (half : ℕ) (flip : Bool) (f : ℤ) → (pos 0 -ℤ pos half) ≤ℤ f → f <ℤ pos half → f ≢ (pos 0 -ℤ pos half) → turned flip f <ℤ pos half
turned_most half false f least most other = most
turned_most half true f least most other =
    elim (cases_lt (unsigned_abs (f +ℤ pos half)) 1) [
      | inl none ↦ absurd (other (omega (arith, ints)))
      | inr some ↦ omega (arith, ints)
    ]

pub folded_elsewhere : (bits : ℕ) (flip : Bool) (d : ℤ) → 0 < bits → folded bits d ≢ (pos 0 -ℤ pos (2 ^ (bits - 1))) → folded bits (turned flip d) ≡ turned flip (folded bits d)
folded_elsewhere bits flip d some other =
    let at = folded_near bits d some in
    folded_is bits _ _ some (congruent_turned (2 ^ bits) flip _ _ at.near) (turned_least (2 ^ (bits - 1)) flip _ at.least at.most) (turned_most (2 ^ (bits - 1)) flip _ at.least at.most other)

pub one_made : (bits : ℕ) (p : ℤ) (flip : Bool) (q : ℤ) → (s : ℕ) × (s < 2 ^ bits) × (pos s ≡ sample_of bits p flip q)
one_made bits p flip q =
    let at = divided (2 ^ bits) (p +ℤ turned flip q) (pow_pos bits) in
    (at.rest, at.small, sym at.is)
