-- Differences and the numbers that are written for them.
use Rattle.std.proofs.Common.{◌≡◌, refl, sym, ◌∙◌, ap, subst, ℕ, zero, suc, ◌+◌, ◌-◌, ◌^◌, ◌<◌, ◌≤◌}
use Rattle.std.proofs.Common.{Bool, true, false, inl, inr, arith, ℤ, pos, negsuc, ◌+ℤ◌, ◌-ℤ◌, ◌<ℤ◌}
use Rattle.std.proofs.Common.{◌≤ℤ◌, unsigned_abs, if◌then◌else◌, ◌⊎◌, to_z, of_z, w32, int_lt}
use Rattle.std.proofs.Common.{true≢false, to_z-of_z, ◌%◌, ◌*◌}
use Rattle.std.proofs.lemmas.Nat.{one_shl}
use Rattle.std.proofs.lemmas.Int.{ints}
use Rattle.std.proofs.Math.Nat.{pow-succ'}
use Rattle.ffv1_plane.specs.Residual.{folded, IsFolded}
use Rattle.ffv1_plane.proofs.Remainders.{IsCongruent}
use Rattle.ffv1_plane.proofs.Folding.{folded_near, folded_is}
use Rattle.ffv1_rice.specs.declared.state.State.{State}
use Rattle.ffv1_rice.specs.States.{turns, IsState}
use Rattle.ffv1_rice.specs.Scalar.{unsigned, mirrored, unbiased, written_for}
use Rattle.ffv1_rice.specs.Row.{coded}
use Rattle.ffv1_rice.proofs.States.{half_small}

pub mirrored_is : (w : ℤ) → mirrored w ≡ pos 0 -ℤ pos 1 -ℤ w
mirrored_is (pos n) = omega (arith, ints)
mirrored_is (negsuc n) = omega (arith, ints)

pub mirrored_twice : (w : ℤ) → mirrored (mirrored w) ≡ w
mirrored_twice (pos n) = refl
mirrored_twice (negsuc n) = refl

-- turned twice a number is itself
pub turned_twice : (turns : Bool) (w : ℤ) →
    (if turns then mirrored (if turns then mirrored w else w) else
    (if turns then mirrored w else w)) ≡ w
turned_twice false w = refl
turned_twice true w = mirrored_twice w

pub unsigned_same : (v w : ℤ) → unsigned v ≡ unsigned w → v ≡ w
unsigned_same (pos m) (pos n) is = ap pos (omega (arith, is))
unsigned_same (pos m) (negsuc n) is = absurd (omega (arith, is))
unsigned_same (negsuc m) (pos n) is = absurd (omega (arith, is))
unsigned_same (negsuc m) (negsuc n) is = ap negsuc (omega (arith, is))

pub whole_half : (bits : ℕ) → 0 < bits → 2 ^ bits ≡ 2 ^ (bits - 1) + 2 ^ (bits - 1)
whole_half zero some = absurd (omega (arith, some))
whole_half (suc b) some =
    let less : suc b - 1 ≡ b = omega arith in
    let twice = pow-succ' 2 b in
    rw less (omega (arith, twice))

-- a number below 2^bits stands for a folded one
small_range : (half : ℕ) (w : ℤ) → unsigned w < half + half →
    ((pos 0 -ℤ pos half) ≤ℤ w) × (w <ℤ pos half)
small_range half (pos n) small = (omega (arith, ints, small), omega (arith, ints, small))
small_range half (negsuc n) small = (omega (arith, ints, small), omega (arith, ints, small))

pub unsigned_folded : (bits : ℕ) (w : ℤ) → 0 < bits → unsigned w < 2 ^ bits → IsFolded bits w
unsigned_folded bits w some small =
    let whole = whole_half bits some in
    let range = small_range (2 ^ (bits - 1)) w (omega (arith, small, whole)) in
    record { least = range.0; most = range.1 }

mirrored_range : (half : ℕ) (w : ℤ) → (pos 0 -ℤ pos half) ≤ℤ w → w <ℤ pos half →
    ((pos 0 -ℤ pos half) ≤ℤ mirrored w) × (mirrored w <ℤ pos half)
mirrored_range half (pos n) least most = (omega (arith, ints, most), omega (arith, ints, most))
mirrored_range half (negsuc n) least most = (omega (arith, ints, least), omega (arith, ints, least))

pub turned_folded : (bits : ℕ) (turns : Bool) (w : ℤ) → IsFolded bits w →
    IsFolded bits (if turns then mirrored w else w)
turned_folded bits false w is = is
turned_folded bits true w is =
    let range = mirrored_range (2 ^ (bits - 1)) w is.least is.most in
    record { least = range.0; most = range.1 }

-- and a folded one is written as a number below 2^bits
range_small : (half : ℕ) (w : ℤ) → (pos 0 -ℤ pos half) ≤ℤ w → w <ℤ pos half → unsigned w < half +
    half
range_small half (pos n) least most = omega (arith, ints, most)
range_small half (negsuc n) least most = omega (arith, ints, least)

pub folded_unsigned : (bits : ℕ) (w : ℤ) → 0 < bits → IsFolded bits w → unsigned w < 2 ^ bits
folded_unsigned bits w some is =
    let whole = whole_half bits some in
    let small = range_small (2 ^ (bits - 1)) w is.least is.most in
    omega (arith, whole, small)

sized : (half : ℕ) (v : ℤ) → (pos 0 -ℤ pos half) ≤ℤ v → v <ℤ pos half → unsigned_abs v ≤ half
sized half (pos n) least most = omega (arith, ints, most)
sized half (negsuc n) least most = omega (arith, ints, least)

pub folded_size : (bits : ℕ) (v : ℤ) → IsFolded bits v → unsigned_abs v ≤ 2 ^ (bits - 1)
folded_size bits v is = sized (2 ^ (bits - 1)) v is.least is.most

less_bias : (n : ℕ) (v b d : ℤ) → IsCongruent n (v +ℤ b) d → IsCongruent n (d -ℤ b) v
less_bias n v b d is = let same = is.same in record {
  down = is.up;
  up = is.down;
  same =
      omega (arith, ints, same);
}

more_bias : (n : ℕ) (v b d : ℤ) → IsCongruent n (d -ℤ b) v → IsCongruent n (v +ℤ b) d
more_bias n v b d is = let same = is.same in record {
  down = is.up;
  up = is.down;
  same =
      omega (arith, ints, same);
}

-- a difference less the bias and the bias are the difference
pub unbiased_back : (bits : ℕ) (s : State) (v : ℤ) → 0 < bits → IsFolded bits v →
    unbiased bits s (folded bits (v +ℤ s.bias)) ≡ v
unbiased_back bits s v some is =
    let at = folded_near bits (v +ℤ s.bias) some in
    folded_is bits (folded bits (v +ℤ s.bias) -ℤ s.bias) v some
    (less_bias (2 ^ bits) v s.bias (folded bits (v +ℤ s.bias)) at.near) is.least is.most

pub biased_back : (bits : ℕ) (s : State) (d : ℤ) → 0 < bits → IsFolded bits d →
    folded bits (unbiased bits s d +ℤ s.bias) ≡ d
biased_back bits s d some is =
    let at = folded_near bits (d -ℤ s.bias) some in
    folded_is bits (unbiased bits s d +ℤ s.bias) d some
    (more_bias (2 ^ bits) (unbiased bits s d) s.bias d at.near) is.least is.most

pub unbiased_folded : (bits : ℕ) (s : State) (d : ℤ) → 0 < bits → IsFolded bits (unbiased bits s d)
unbiased_folded bits s d some =
    let at = folded_near bits (d -ℤ s.bias) some in
    record { least = at.least; most = at.most }

-- what is known of a value whose number was read
pub record IsValue (depth : ℕ) (s : State) (value : ℤ) (n : ℕ) : Type 0 where
  pub folded : IsFolded depth value
  pub written : written_for s value ≡ n

pub value_read : (depth n : ℕ) (s : State) (w value : ℤ) (turn : Bool) → 0 < depth → turn ≡ turns
    s →
    value ≡ (if turn then mirrored w else w) → unsigned w ≡ n → n < 2 ^ depth → IsValue depth s
    value n
value_read depth n s w value turn some same is number small =
    let made : value ≡ (if turns s then mirrored w else w) = is ∙
    ap (λ t. if t then mirrored w else w) same in
    record {
      folded = subst (IsFolded depth) (sym made)
          (turned_folded depth (turns s) w (unsigned_folded depth w some (rw number small)));
      written = ap (written_for s) made ∙ ap unsigned (turned_twice (turns s) w) ∙ number;
    }

-- a number of 32 bits that is folded
pub fits_folded : (depth : ℕ) (v : ℤ) → (depth ≡ 8) ⊎ (depth ≡ 9) → IsFolded depth v → to_z w32
    (of_z w32 v) ≡ v
fits_folded depth v depths is =
    let size = folded_size depth v is in
    let small = half_small depth (elim depths [
      | inl eight ↦ omega (arith, eight)
      | inr nine ↦
          omega (arith, nine)
    ]) in
    omega (arith, ints, size, small)

pub fits_biased : (depth : ℕ) (s : State) (v : ℤ) → (depth ≡ 8) ⊎ (depth ≡ 9) → IsFolded depth v →
    IsState depth s →
    to_z w32 (of_z w32 (to_z w32 (of_z w32 v) +ℤ to_z w32 (of_z w32 s.bias))) ≡ v +ℤ s.bias
fits_biased depth s v depths is state =
    let size = folded_size depth v is in
    let small = half_small depth (elim depths [
      | inl eight ↦ omega (arith, eight)
      | inr nine ↦
          omega (arith, nine)
    ]) in
    let least = state.least in
    let most = state.most in
    omega (arith, ints, size, small, least, most)

pub some_bits : (depth : ℕ) → (depth ≡ 8) ⊎ (depth ≡ 9) → 0 < depth
some_bits depth (inl is) = omega (arith, is)
some_bits depth (inr is) = omega (arith, is)

-- after a run a number from 0 on counts one more
pub coded_next : (depth : ℕ) (d : ℤ) → (depth ≡ 8) ⊎ (depth ≡ 9) → IsFolded depth d → pos 0 ≤ℤ d →
    coded true (to_z w32 (of_z w32 (to_z w32 (of_z w32 d) +ℤ pos 1))) ≡ d
coded_next depth (negsuc n) depths is least = absurd (omega (arith, ints, least))
coded_next depth (pos n) depths is least =
    let size = folded_size depth (pos n) is in
    let small = half_small depth (elim depths [
      | inl eight ↦ omega (arith, eight)
      | inr nine ↦
          omega (arith, nine)
    ]) in
    let next : to_z w32 (of_z w32 (to_z w32 (of_z w32 (pos n)) +ℤ pos 1)) ≡ pos (suc n) =
    omega (arith, ints, size, small) in
    ap (coded true) next

pub not_below : (d : ℤ) → int_lt d (pos 0) ≡ false → pos 0 ≤ℤ d
not_below (pos n) is = omega (arith, ints)
not_below (negsuc n) is = absurd (true≢false is)

-- the greatest number of so many bits
pub greatest : (depth : ℕ) (d : ℤ) → (depth ≡ 8) ⊎ (depth ≡ 9) → IsFolded depth d → pos 0 ≤ℤ d →
    of_z w32 (to_z w32 (of_z w32 d) +ℤ pos 1) ≡ 1 * 2 ^ (depth - 1) % 2 ^ 32 → d ≡ pos (2 ^ (depth
    - 1) - 1)
greatest depth (negsuc n) depths is least same = absurd (omega (arith, ints, least))
greatest depth (pos n) depths is least same =
    let few : depth ≤ 9 = elim depths [
      | inl eight ↦ omega (arith, eight)
      | inr nine ↦ omega (
        arith,
        nine,
      )
    ] in
    let size = folded_size depth (pos n) is in
    let small = half_small depth few in
    let value = to_z-of_z {w = w32} {z = pos n} (record { sfits = omega (arith, size, small) }) in
    let number : of_z w32 (to_z w32 (of_z w32 (pos n)) +ℤ pos 1) ≡ n + 1 = ap (λ z. of_z w32 (z +ℤ
    pos 1)) value in
    let power = one_shl (depth - 1) 32 (omega (arith, few)) in
    ap pos (omega (arith, same, number, power))
